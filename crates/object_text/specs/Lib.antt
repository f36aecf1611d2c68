pub mod Words
pub mod Errors
pub mod Flags
pub mod Classes
pub mod Traffic
pub mod Routes
pub mod Fields
