pub mod Kept
pub mod Vacancies
pub mod Entered
pub mod Entering
pub mod Drafts
