pub mod Walking
pub mod Staying
