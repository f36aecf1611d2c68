-- Lemmas of crates further down, as the crates above this one name them.
pub use Rattle.run_reconciler.proofs.Rounds as rounds
