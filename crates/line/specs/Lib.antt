pub mod Line
pub mod Tasks
