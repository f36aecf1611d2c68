pub mod Expiries
pub mod Sessions
