pub mod Answered
pub mod Appended
pub mod CountedUpTo
pub mod Gathered
pub mod Heads
pub mod MessageAnswered
pub mod Written
