pub mod Attributes
pub mod Passing
pub mod Prefixes
pub mod Protection
pub mod Routes
pub mod Steps
pub mod Traces
pub mod Traffic
