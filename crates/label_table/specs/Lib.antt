pub mod Below
pub mod Bypassed
pub mod RowLaws
pub mod Rows
pub mod TunnelLaws
pub mod TunnelRows
pub mod Turns
