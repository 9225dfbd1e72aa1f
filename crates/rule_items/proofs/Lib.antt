pub mod Items
pub mod Conditions
