pub mod Owners
pub mod Steps
pub mod OutsideLaws
pub mod Serving
