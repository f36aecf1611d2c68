pub mod Choices
pub mod Ending
pub mod Rooms
pub mod Stacks
