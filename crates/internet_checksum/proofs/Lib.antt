pub mod ChangedBytes
pub mod ModularSums
pub mod SummedMessages
pub mod WrittenFields
pub mod WideSums
