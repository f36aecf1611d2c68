pub mod Left
pub mod Merged
pub mod ShareLaws
pub mod Shares
pub mod SumLaws
pub mod TurnLaws
