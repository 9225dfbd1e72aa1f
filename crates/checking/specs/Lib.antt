pub mod Areas
pub mod Checking
