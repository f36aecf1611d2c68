-- The words of crates further down, as the crates above this one name them.
pub use Rattle.state_views.specs as views
