pub mod Chains
pub mod Passing
pub mod Places
pub mod Slots
pub mod Turning
