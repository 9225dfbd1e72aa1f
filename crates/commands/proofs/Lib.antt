pub mod Outcomes
pub mod Adding
pub mod Idling
pub mod Drawing
pub mod Deciding
