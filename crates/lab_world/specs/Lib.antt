pub mod Invariant
pub mod Opening
pub mod Reads
pub mod Steps
