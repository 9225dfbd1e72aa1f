pub mod Held
pub mod Did
pub mod Clauses
pub mod Does
pub mod Assignments
pub mod StateRefs
