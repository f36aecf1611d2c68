-- From an object's frame and the value of its body to the object that the first bytes spell.
use Rattle.std.proofs.Common.{◌≡◌, ℕ, ◌+◌, ◌≤◌, List, length, take, Some, None, Ok, Err, sym, ap, ◌∙◌, subst, arith, add_comm}
use Rattle.rsvp_bodies.specs.declared.fault.ObjectFault.{ObjectFault}
use Rattle.rsvp_bodies.specs.declared.fault.ObjectFault.TheVariants.{Length, Memory}
use Rattle.rsvp_bodies.specs.Reading.{ReadsWhole, ReadsFirst, Gives}
use Rattle.rsvp_objects.specs.declared.object.Object.{Object}
use Rattle.rsvp_objects.specs.Raw.{Raw}
use Rattle.rsvp_objects.specs.Kinds.{kind_of}
use Rattle.rsvp_objects.specs.Framing.{frame_in}
use Rattle.rsvp_objects.specs.Objects.{SpellsAs, SpellsObject}
use Rattle.rsvp_objects.proofs.Frames.{IsBytes, framed, reframed}

-- what a body says under the class and C-Type of raw
abbrev pub SpellsUnder : Raw → List ℕ → Object → Type 0
SpellsUnder raw body object = SpellsAs (kind_of raw.class raw.ctype) (record { class = raw.class; ctype = raw.ctype; body = body }) object

-- first bytes that spell an object are the frame that is read off the bytes
spelled_frame : (bytes : List ℕ) (raw : Raw) (object : Object) (n : ℕ) → frame_in bytes ≡ Some raw → n ≤ length bytes → SpellsObject (take n bytes) object →
    SpellsUnder raw raw.body object × (n ≡ 4 + length raw.body)
spelled_frame bytes raw object n e l s =
    let again = reframed bytes s.raw n l s.is_raw s.framed in
    let same : s.raw ≡ raw = let both : Some s.raw ≡ Some raw = sym again.0 ∙ e in cc in (
      subst (λ (r : Raw). SpellsAs (kind_of r.class r.ctype) r object) same s.value,
      again.1 ∙ add_comm (length s.raw.body) 4 ∙ ap (λ (r : Raw). 4 + length r.body) same,
    )

pub read_ok : (bytes : List ℕ) (raw : Raw) (object : Object) → IsBytes bytes → frame_in bytes ≡ Some raw →
    ReadsWhole (SpellsUnder raw) raw.body (Ok object) → ReadsFirst SpellsObject bytes (Ok (object, 4 + length raw.body))
read_ok bytes raw object fits e h =
    let frame = framed bytes raw fits e in
    let size : 4 + length raw.body ≡ length raw.body + 4 = add_comm 4 (length raw.body) in
    record {
      within = omega (arith, frame.within);
      found =
          record {
            raw = raw;
            is_raw = frame.is_raw;
            framed = ap (λ (n : ℕ). take n bytes) size ∙ frame.front;
            value = h.found;
          };
      only = λ x n l s.
          let at = spelled_frame bytes raw x n e l s in
          let same : object ≡ x = h.only x at.0 in
          let count : 4 + length raw.body ≡ n = sym at.1 in
          cc;
    }

-- a fault says nothing of the value that was not read
fault_at : {X Y : Type 0} (e : ObjectFault) (x : X) (y : Y) → Gives (Err e) x → Gives (Err e) y
fault_at Length x y h = absurd h
fault_at Memory x y h = tt

pub read_err : (bytes : List ℕ) (raw : Raw) (e : ObjectFault) → frame_in bytes ≡ Some raw →
    ReadsWhole (SpellsUnder raw) raw.body (Err e) → ReadsFirst SpellsObject bytes (Err e)
read_err bytes raw e is h =
    record {
      within = tt;
      found = tt;
      only = λ x n l s. fault_at e x (x, n) (h.only x (spelled_frame bytes raw x n is l s).0);
    }

pub read_none : (bytes : List ℕ) → frame_in bytes ≡ None → ReadsFirst SpellsObject bytes (Err Length)
read_none bytes e =
    record {
      within = tt;
      found = tt;
      only = λ x n l s.
          let again = reframed bytes s.raw n l s.is_raw s.framed in
          let none : Some s.raw ≡ None = sym again.0 ∙ e in
          absurd cc;
    }
