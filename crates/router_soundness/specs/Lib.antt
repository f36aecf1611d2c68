pub mod Assigned
pub mod Drafted
