pub mod Drafts
pub mod EditLaws
pub mod Edits
pub mod Joining
pub mod KnownLsps
