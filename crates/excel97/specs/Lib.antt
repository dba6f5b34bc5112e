pub mod Books
pub mod Demand3
pub mod Open
pub mod Padded
pub mod Scratch
pub mod Steps
