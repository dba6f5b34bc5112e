pub mod Forecasts
pub mod KeySizes
pub mod Numbers
pub mod SamePasswords
pub mod Scratch
pub mod Seals
