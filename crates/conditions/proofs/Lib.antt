pub mod Longest
pub mod Sizing
pub mod Kept
pub mod Laws
