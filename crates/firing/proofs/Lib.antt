pub mod Carried
pub mod Required
pub mod Given
pub mod Judging
pub mod Waitings
pub mod Served
pub mod Callers
