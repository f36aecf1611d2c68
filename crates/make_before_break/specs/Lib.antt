pub mod Switching
pub mod SwitchingLaws
