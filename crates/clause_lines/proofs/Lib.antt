pub mod Clauses
pub mod Parts
pub mod Walks
pub mod Asserting
pub mod Copying
