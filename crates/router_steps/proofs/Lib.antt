pub mod Expiries
pub mod Onward
pub mod Staying
pub mod Torn
