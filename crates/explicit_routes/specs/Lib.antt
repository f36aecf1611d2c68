pub mod Below
pub mod Choosing
pub mod Unfolded
