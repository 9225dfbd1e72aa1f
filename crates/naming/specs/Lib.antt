pub mod Naming
pub mod Settled
pub mod Alike
