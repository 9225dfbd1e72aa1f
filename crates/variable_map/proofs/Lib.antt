pub mod Slots
pub mod Places
pub mod Laws
