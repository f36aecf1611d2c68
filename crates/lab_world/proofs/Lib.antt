pub mod Keeping
pub mod Leading
pub mod Moving
pub mod Running
pub mod Stepping
pub mod Stopping
