pub mod Writes
pub mod Turns
pub mod Padding
