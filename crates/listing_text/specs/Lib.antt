pub mod Padded
pub mod Text
