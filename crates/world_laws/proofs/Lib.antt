pub mod Delivering
pub mod Entries
pub mod Later
pub mod Moving
pub mod Opening
pub mod Places
pub mod Stepping
pub mod Wired
