pub mod Answering
pub mod Cooling
pub mod Making
pub mod Planning
pub mod Starting
pub mod WhileCold
