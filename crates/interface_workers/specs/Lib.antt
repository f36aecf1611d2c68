pub mod Below
pub mod Chains
pub mod Early
pub mod Next
pub mod Turns
pub mod Wires
