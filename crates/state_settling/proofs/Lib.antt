pub mod Editing
pub mod Moving
pub mod Nothing
