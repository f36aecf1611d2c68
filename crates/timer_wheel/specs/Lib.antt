pub mod Due
pub mod Rings
pub mod TimedLaws
pub mod Wheels
