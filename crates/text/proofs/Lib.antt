pub mod Written
pub mod Writing
pub mod Laws
