-- An object as RFC 2205, 3.1.2 frames it: a length of 16 bits that counts these four bytes too, a
-- Class-Num, a C-Type and a body.
use Rattle.std.specs.Prelude.{ℕ, ◌+◌, ◌<◌, List, ◌∷◌, ◌++◌, length}
use Rattle.byteorder.specs.Endian.{big_bytes}
use Rattle.rsvp_bodies.specs.Bodies.{IsBody}

pub record Raw : Type 0 where
  pub class : ℕ
  pub ctype : ℕ
  pub body : List ℕ

-- the object's bytes
abbrev pub object_bytes : Raw → List ℕ
object_bytes o = big_bytes 2 (length o.body + 4) ++ (o.class ∷ o.ctype ∷ o.body)

-- each number fits its field, and the body is whole words that the length can count
pub record IsRaw (o : Raw) : Type 0 where
  pub class : o.class < 256
  pub ctype : o.ctype < 256
  pub body : IsBody o.body
