pub mod Counted
pub mod Foretold
pub mod Keys
pub mod Proved
