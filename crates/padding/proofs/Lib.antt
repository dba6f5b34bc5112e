pub mod Blocks
pub mod Mark
pub mod Size
