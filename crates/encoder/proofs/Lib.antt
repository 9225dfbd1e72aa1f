pub mod Did
pub mod Steps
pub mod Counted
pub mod Frames
pub mod Widening
pub mod Clauses
pub mod Does
pub mod Assignments
