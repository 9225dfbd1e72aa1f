pub mod BothEnds
pub mod Known
pub mod Ran
pub mod Flags
