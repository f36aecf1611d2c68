mod Reserving
pub mod Telling
