pub mod Answered
pub mod Below
pub mod Kept
pub mod Names
