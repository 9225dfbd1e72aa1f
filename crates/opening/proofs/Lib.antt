pub mod Line
pub mod Opens
pub mod Several
pub mod Tracking
pub mod Variables
pub mod Waiting
