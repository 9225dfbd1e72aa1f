pub mod Changed
pub mod Laws
pub mod Rows
pub mod Sizes
