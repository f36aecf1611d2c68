pub mod Marks
pub mod Runs
pub mod Slots
