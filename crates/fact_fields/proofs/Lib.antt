pub mod Appended
pub mod Rising
pub mod Splitting
pub mod Untold
