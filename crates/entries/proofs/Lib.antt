pub mod Laws
pub mod Drain
pub mod Places
