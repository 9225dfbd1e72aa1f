pub mod Starting
pub mod Undoing
pub mod Running
pub mod Settling
pub mod Blocking
pub mod Records
pub mod Sheets
