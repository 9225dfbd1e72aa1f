pub mod Changed
pub mod Layout
pub mod Limits
