pub mod Claiming
pub mod Gone
pub mod Hearing
pub mod Judging
pub mod Reaching
pub mod Renewing
pub mod Telling
