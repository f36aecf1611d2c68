pub mod Topics
pub mod Nearest
pub mod Answers
pub mod Headings
pub mod Asking
