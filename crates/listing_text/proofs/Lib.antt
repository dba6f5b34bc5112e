pub mod Numbers
pub mod Padded
pub mod Written
