pub mod Alike
pub mod AlikeDid
pub mod Loops
pub mod Ranges
pub mod Disjuncts
pub mod Widening
pub mod Settled
pub mod Firsts
