pub mod Acting
pub mod Asking
pub mod Bypassing
pub mod Changing
pub mod Keeping
pub mod Pushing
pub mod Rooms
pub mod Setting
