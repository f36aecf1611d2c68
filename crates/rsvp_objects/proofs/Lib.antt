pub mod Again
pub mod Cells
pub mod Frames
pub mod Mapped
pub mod ObjectCode
pub mod ObjectRead
pub mod Sizes
pub mod Spelled
