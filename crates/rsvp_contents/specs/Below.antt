-- The words of crates further down, as the crates above this one name them.
pub use Rattle.rsvp_objects.specs as objects
pub use Rattle.rsvp_objects.specs.Below.bodies as bodies
