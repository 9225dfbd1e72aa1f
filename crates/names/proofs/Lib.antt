pub mod Locked
pub mod Serving
