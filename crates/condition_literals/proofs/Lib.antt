pub mod Pushing
pub mod Known
pub mod Literals
pub mod Falsified
