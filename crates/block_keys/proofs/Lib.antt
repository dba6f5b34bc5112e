pub mod Answers
pub mod Blocks
pub mod Encrypted
pub mod Parts
pub mod Schedules
pub mod Schemes
