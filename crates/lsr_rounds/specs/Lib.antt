pub mod Attending
pub mod Ended
pub mod Rounds
