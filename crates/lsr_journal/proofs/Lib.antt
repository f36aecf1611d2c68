mod Answering
mod Faultless
pub mod Keeping
mod Telling
pub mod Segmenting
