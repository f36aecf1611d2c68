-- The parts of objects that are passed on.
use Rattle.std.specs.Prelude.{◌∷◌, ◌++◌, ℕ, IsTrue, List, length, refl}
use Rattle.std.specs.List.{flat_map}
use Rattle.byteorder.specs.Endian.{big_bytes}
use Rattle.field_bytes.specs.Making.{IsToldApart, told_by}
use Rattle.rsvp_bodies.specs.Bodies.{IsBody}
use Rattle.rsvp_objects.specs.Kinds.{is_kept, kind_of}
use Rattle.rsvp_objects.specs.Raw.{Raw}
use Rattle.journal_bytes.specs.Events.{counted_bytes}

-- an object of a class and C-Type that has no fields of its own, with a body of whole words
pub record IsOpaque (object : Raw) : Type 0 where
  pub kept : IsTrue (is_kept (kind_of object.class object.ctype))
  pub body : IsBody object.body

-- its class, its C-Type and its body
abbrev pub opaque_parts : Raw → ℕ × (ℕ × List ℕ)
opaque_parts object = (object.class, (object.ctype, object.body))

-- the object of these
abbrev pub opaque_of : ℕ × (ℕ × List ℕ) → Raw
opaque_of parts = record { class = parts.0; ctype = parts.1.0; body = parts.1.1 }

pub opaque_told : IsToldApart IsOpaque opaque_parts
opaque_told = told_by IsOpaque opaque_parts opaque_of (λ object. refl)

-- an object that is passed on: its class, its C-Type and its body
abbrev pub opaque_bytes : Raw → List ℕ
opaque_bytes object = object.class ∷ object.ctype ∷ counted_bytes object.body

-- objects that are passed on: how many there are, in 4 bytes, and the objects
abbrev pub passing_bytes : List Raw → List ℕ
passing_bytes objects = big_bytes 4 (length objects) ++ flat_map opaque_bytes objects

-- objects that are passed on are the objects
abbrev pub same_passing : List Raw → List Raw
same_passing objects = objects
