pub mod Unions
pub mod Views
