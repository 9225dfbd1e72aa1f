pub mod Held
pub mod Outcomes
pub mod Running
pub mod Flags
