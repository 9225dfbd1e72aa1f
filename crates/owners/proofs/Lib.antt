pub mod Names
pub mod Records
pub mod Rules
pub mod Along
pub mod Serving
