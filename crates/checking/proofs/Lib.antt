pub mod Areas
pub mod Laws
