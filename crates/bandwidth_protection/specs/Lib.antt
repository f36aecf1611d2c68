pub mod Candidates
pub mod CandidateLaws
pub mod Keeping
pub mod Narrowing
pub mod Resting
pub mod RestingLaws
pub mod Wishing
pub mod WishLaws
