mod Ends
mod FormLaws
mod LineLaws
mod Living
mod PartLaws
pub mod Serving
pub mod Stepping
mod WordLaws
