pub mod Checking
pub mod Running
pub mod Program
