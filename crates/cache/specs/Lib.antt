pub mod Areas
pub mod Lists
pub mod Views
