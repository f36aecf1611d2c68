pub mod AllTurns
pub mod Between
pub mod NextRows
pub mod OneTurn
pub mod Taking
