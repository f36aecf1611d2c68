pub mod Given
pub mod KeptEnds
pub mod Passing
pub mod Repaired
pub mod Reserved
pub mod Saying
