pub mod Going
pub mod KeptAlive
pub mod Placing
pub mod Touching
