pub mod Fitting
pub mod PassingLaws
pub mod PathLaws
pub mod ResvLaws
pub mod Telling
