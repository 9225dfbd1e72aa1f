pub mod Storing
pub mod Setting
pub mod Adding
pub mod Added
