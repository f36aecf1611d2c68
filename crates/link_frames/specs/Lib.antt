pub mod Frames
pub mod Payloads
