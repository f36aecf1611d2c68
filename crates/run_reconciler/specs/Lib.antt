pub mod Judged
pub mod Mismatches
pub mod Reconciled
pub mod Rounds
pub mod Walks
