pub mod Below
pub mod Machines
pub mod Plans
pub mod Readies
pub mod States
