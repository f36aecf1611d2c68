pub mod Flags
pub mod KeptTurns
pub mod Placing
pub mod Rounds
pub mod Turns
