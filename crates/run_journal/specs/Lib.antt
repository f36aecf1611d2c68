pub mod Below
pub mod Entries
pub mod Journals
pub mod Marks
pub mod Spelled
