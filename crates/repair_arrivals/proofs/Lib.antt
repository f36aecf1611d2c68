pub mod Matches
pub mod Renewals
pub mod Torn
