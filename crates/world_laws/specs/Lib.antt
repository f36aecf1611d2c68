pub mod Closed
pub mod Coming
pub mod Given
pub mod Opening
pub mod Sending
pub mod Truths
