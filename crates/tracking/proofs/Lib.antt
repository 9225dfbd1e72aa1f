pub mod Steps
pub mod Helpers
pub mod Parts
pub mod Clauses
