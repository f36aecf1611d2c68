pub mod Commands
pub mod EventLaws
pub mod Fitting
pub mod Laws
pub mod Spelled
pub mod Tunnels
pub mod Unread
