pub mod Fields
pub mod Vacancies
pub mod Entered
