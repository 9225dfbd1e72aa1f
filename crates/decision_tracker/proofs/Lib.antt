pub mod Lists
pub mod Values
pub mod Laws
