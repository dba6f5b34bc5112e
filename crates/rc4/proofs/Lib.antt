pub mod Carried
pub mod Examples
pub mod Halves
pub mod Rearranged
pub mod Steps
pub mod Table
