-- The words of crates further down, as the crates above this one name them.
pub use Rattle.shared_core.specs as core
pub use Rattle.shared_core.specs.Below.journal as journal
pub use Rattle.worker_tallies.specs as tallies
