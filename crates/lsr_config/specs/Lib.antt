pub mod Configs
pub mod Documents
pub mod Faults
pub mod Keys
pub mod Reading
pub mod Rules
pub mod Values
