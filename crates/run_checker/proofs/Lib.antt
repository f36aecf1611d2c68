pub mod Keeping
mod Leading
pub mod Refusing
mod Steps
mod Telling
mod Unlabelled
