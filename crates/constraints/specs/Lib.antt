pub mod Constraints
pub mod Outside
