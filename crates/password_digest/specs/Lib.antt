pub mod Digest
pub mod Filling
