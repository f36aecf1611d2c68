-- The words of crates further down, as the crates above this one name them.
pub use Rattle.abstract_paths.specs as paths
