pub mod Facts
pub mod Forecasts
pub mod KeySizes
pub mod SamePasswords
pub mod Scratch
pub mod Seals
