-- The words of crates further down, as the crates above this one name them.
pub use Rattle.label_table.specs as labels
pub use Rattle.label_table.specs.Below.views as views
