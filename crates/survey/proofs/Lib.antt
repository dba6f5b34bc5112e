pub mod Asked
pub mod First
pub mod Locked
pub mod Records
pub mod Tallied
pub mod Told
