pub mod Leaving
pub mod Taken
pub mod Whole
