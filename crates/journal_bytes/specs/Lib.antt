pub mod Entries
pub mod Events
