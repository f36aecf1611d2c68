pub mod Counting
pub mod Joining
pub mod Labelling
pub mod Places
pub mod Putting
pub mod Trying
