pub mod Entries
pub mod Journals
pub mod Telling
pub mod Words
