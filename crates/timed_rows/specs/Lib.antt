pub mod Gathered
pub mod Timed
