pub mod Expiring
pub mod Onward
pub mod Torn
