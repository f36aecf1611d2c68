pub mod Labelled
pub mod Signalling
pub mod SilenceLaws
