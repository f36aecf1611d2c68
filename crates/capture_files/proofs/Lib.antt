pub mod OptionWalk
pub mod TagWalk
pub mod Walk
