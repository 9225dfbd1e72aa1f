pub mod Listed
pub mod Stores
pub mod Rows
pub mod Laws
