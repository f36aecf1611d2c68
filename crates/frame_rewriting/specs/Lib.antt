pub mod Passing
pub mod Rewriting
pub mod RewritingLaws
