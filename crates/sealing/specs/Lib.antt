pub mod Filepass
pub mod Seal
pub mod Steps
pub mod Theorems
