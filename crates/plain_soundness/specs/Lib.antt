pub mod Apart
pub mod Clauses
pub mod Labelled
pub mod Styles
pub mod Surroundings
