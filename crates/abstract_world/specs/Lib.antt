pub mod Moves
pub mod Opening
pub mod Runs
pub mod Wires
pub mod Worlds
