pub mod Bandwidths
pub mod RoomLaws
pub mod Running
pub mod Runs
pub mod Sums
