-- The words of crates further down, as the crates above this one name them.
pub use Rattle.interface_workers.specs as workers
pub use Rattle.run_reconciler.specs as reconciler
