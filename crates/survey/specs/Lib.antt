pub mod Steps
pub mod Survey
