pub mod Second
pub mod Claimed
