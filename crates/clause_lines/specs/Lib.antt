pub mod Spans
pub mod Asserted
