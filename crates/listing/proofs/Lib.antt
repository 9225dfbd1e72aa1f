pub mod Waiting
pub mod Linking
pub mod Whole
