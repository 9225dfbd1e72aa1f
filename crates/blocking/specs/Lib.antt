pub mod Blocking
