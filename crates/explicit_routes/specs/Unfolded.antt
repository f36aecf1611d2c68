-- Definitions of the abstract router that the bodies of the crate above this one unfold.
unfoldable pub use Rattle.abstract_paths.specs.Paths.{has_loop, way_for}
unfoldable pub use Rattle.abstract_paths.specs.Tears.{leaves_by}
