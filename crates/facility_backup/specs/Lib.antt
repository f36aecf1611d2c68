pub mod Asking
pub mod Carrying
pub mod Choosing
pub mod Holding
pub mod Matching
pub mod OverLaws
pub mod Serving
