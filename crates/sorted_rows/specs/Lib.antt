pub mod Closures
pub mod EditLaws
pub mod Edits
pub mod InTurn
pub mod ListLaws
pub mod Reserved
pub mod Rows
pub mod RowsLaws
