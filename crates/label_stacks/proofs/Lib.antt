pub mod Again
pub mod Stacking
