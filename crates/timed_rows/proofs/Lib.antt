pub mod Gather
pub mod Rows
