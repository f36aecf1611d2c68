pub mod Heard
pub mod Said
pub mod Told
pub mod Endings
pub mod Counters
pub mod Answers
pub mod Consoles
