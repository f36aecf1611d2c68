pub mod Flags
pub mod Following
