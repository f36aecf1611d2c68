pub mod Kept
pub mod Passes
pub mod Places
pub mod ReservedRows
