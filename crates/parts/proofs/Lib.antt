pub mod Lists
pub mod Selecting
pub mod Names
pub mod Clauses
pub mod Serving
