pub mod BlockKeys
pub mod Lock
