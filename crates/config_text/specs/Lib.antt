pub mod Printing
pub mod Positions
pub mod Sections
pub mod Cuts
pub mod Allowed
pub mod Places
pub mod Telling
