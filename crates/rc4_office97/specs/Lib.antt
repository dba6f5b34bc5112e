pub mod Keys
pub mod Parse
