-- The words of crates further down, as the crates above this one name them.
pub use Rattle.run_journal.specs as journal
