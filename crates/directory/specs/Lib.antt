pub mod Brackets
pub mod Directory
pub mod Steps
pub mod Theorems
