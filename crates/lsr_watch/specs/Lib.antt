pub mod Lsps
pub mod Errors
pub mod Tunnels
pub mod Changes
