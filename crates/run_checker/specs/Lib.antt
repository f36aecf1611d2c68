pub mod Faulty
pub mod Labelling
pub mod Names
pub mod Recorded
pub mod Taking
