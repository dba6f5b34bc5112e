pub mod KeySizes
pub mod Passed
pub mod Scanned
