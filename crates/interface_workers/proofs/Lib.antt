pub mod Chaining
pub mod Counting
pub mod Naming
pub mod Passing
pub mod Sendings
pub mod Slicing
pub mod TakenKinds
pub mod Turning
