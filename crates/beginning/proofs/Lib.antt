pub mod Held
pub mod Added
pub mod Drawn
pub mod Begin
