pub mod Checking
pub mod Following
pub mod Names
pub mod Telling
