pub mod Actions
pub mod Forwarding
pub mod ForwardingLaws
pub mod Labels
