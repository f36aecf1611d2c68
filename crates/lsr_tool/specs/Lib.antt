pub mod Attended
pub mod Commands
pub mod Configuring
pub mod Growing
pub mod Serving
