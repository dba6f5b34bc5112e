pub mod Examples
pub mod Rounds
pub mod Schedule
