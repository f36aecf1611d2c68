-- The objects of a message that count.
use Rattle.std.specs.Prelude.{◌≡◌, ◌<◌, ℕ, Bool, false, List, slice_index_or}
use Rattle.rsvp_bodies.specs.Reading.{SpellsEach}
use Rattle.rsvp_objects.specs.declared.object.Object.{Object}
use Rattle.rsvp_objects.specs.Objects.{SpellsObject}
use Rattle.rsvp_contents.specs.Counting.{counting, has_class}

-- The bytes spell objects, of which these count in a message of this type.
pub record SpellsCounting (type : ℕ) (bytes : List ℕ) (kept : List Object) : Type 0 where
  pub objects : List Object
  pub spelled : SpellsEach SpellsObject bytes objects
  pub count : kept ≡ counting type objects

-- These are the classes of the objects, each at its number.
abbrev pub AreClasses : List Bool → List Object → Type 0
AreClasses classes objects = (class : ℕ) → class < 256 → slice_index_or classes class false ≡ has_class class objects
