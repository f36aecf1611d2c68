pub mod Commands
pub mod Forms
pub mod Lines
pub mod Live
pub mod Lsps
pub mod Numbers
pub mod Runs
pub mod Steps
