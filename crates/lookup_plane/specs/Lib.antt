pub mod Changes
pub mod ChangesLaws
pub mod Published
pub mod Slots
