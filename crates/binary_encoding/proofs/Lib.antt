pub mod Track
pub mod Joins
pub mod Joiners
pub mod Names
pub mod All
pub mod Links
pub mod Joined
