pub mod Entries
pub mod Stacks
