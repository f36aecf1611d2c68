pub mod Flags
pub mod Rows
