pub mod Below
pub mod Clocking
mod Counting
mod Digits
mod Locality
mod Owning
mod SocketTexts
mod Telling
