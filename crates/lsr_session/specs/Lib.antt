pub mod Lsps
pub mod Requests
pub use Rattle.router_core.specs.States
