pub mod Decoding
pub mod Captures
pub mod Files
