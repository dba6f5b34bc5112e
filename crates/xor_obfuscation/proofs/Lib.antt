pub mod Derived
pub mod Doubling
pub mod Inverse
pub mod Pieces
