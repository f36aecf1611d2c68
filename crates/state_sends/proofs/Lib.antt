pub mod Asking
pub mod Elsewhere
pub mod Lifting
pub mod Placing
pub mod Repeating
pub mod Searching
pub mod Sending
pub mod Touching
