pub mod Serving
pub mod Line
pub mod Flags
