pub mod ChecksumLaws
pub mod Checksums
pub mod OnesSums
pub mod WideSums
