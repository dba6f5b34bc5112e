pub mod Choice
pub mod Offsets
