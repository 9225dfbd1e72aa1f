pub mod Terms
pub mod Answers
