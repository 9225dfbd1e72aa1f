pub mod Hand
pub mod Released
pub mod Counting
pub mod Parts
pub mod Decided
pub mod ByDecisions
pub mod Given
pub mod Assignments
