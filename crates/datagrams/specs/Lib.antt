pub mod Datagrams
pub mod Parts
