pub mod KeyIndex
pub mod Rc4
pub mod Steps
