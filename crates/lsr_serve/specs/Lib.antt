pub mod Below
pub mod Local
pub mod Moments
pub mod Reports
pub mod Sockets
pub mod Told
pub mod Turns
