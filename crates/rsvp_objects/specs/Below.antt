-- The words of crates further down, as the crates above this one name them.
pub use Rattle.rsvp_bodies.specs as bodies
