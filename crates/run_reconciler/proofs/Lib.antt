pub mod Calling
pub mod Counting
pub mod Joining
mod OwnPorts
pub mod Ports
pub mod Rounds
pub mod Walking
pub mod Whole
