-- Bytes spell one reading, or have one first fault.
use Rattle.std.proofs.Common.{◌≡◌, ℕ, List, drop, Option, Some, None, Result, Ok, Err, sym, ap, ◌∙◌, inl, inr}
use Rattle.std.specs.Prelude.{slice_index}
use Rattle.rsvp_bodies.proofs.Sequences.{SpellsEach-unique}
use Rattle.rsvp_objects.specs.declared.object.Object.{Object}
use Rattle.rsvp_objects.proofs.ObjectCode.{object_code}
use Rattle.rsvp_contents.specs.declared.dropped.Dropped.{Dropped}
use Rattle.rsvp_contents.specs.declared.message.Reading.{Reading}
use Rattle.rsvp_contents.specs.Picking.{objects_read}
use Rattle.rsvp_contents.specs.Spelling.{header_fault, HasObjects, SpellsReading, IsFirstFault}

-- the objects of a message are these
one_list : (bytes : List ℕ) (xs ys : List Object) → HasObjects bytes xs → HasObjects bytes ys → xs ≡ ys
one_list bytes xs ys s t = SpellsEach-unique object_code (drop 8 bytes) xs ys s.spelled t.spelled

-- what is read from them is one answer
one_answer : (bytes : List ℕ) (xs ys : List Object) (a b : Result Reading Dropped) → HasObjects bytes xs → HasObjects bytes ys → objects_read (slice_index bytes 1) xs ≡ a → objects_read (slice_index bytes 1) ys ≡ b → a ≡ b
one_answer bytes xs ys a b s t e f = sym e ∙ ap (λ (os : List Object). objects_read (slice_index bytes 1) os) (one_list bytes xs ys s t) ∙ f

-- no bytes spell two readings
pub one_reading_lem : (bytes : List ℕ) (a b : Reading) → SpellsReading bytes a → SpellsReading bytes b → a ≡ b
one_reading_lem bytes a b s t =
    let both = one_answer bytes s.0 t.0 (Ok a) (Ok b) s.1 t.1 s.2 t.2 in cc

-- a header has one fault, or none
header_clash : (bytes : List ℕ) (f : Dropped) → header_fault bytes ≡ None → header_fault bytes ≡ Some f → ⊥
header_clash bytes f e g = let both : ◌≡◌ {A = Option Dropped} None (Some f) = sym e ∙ g in absurd cc

-- what spells a reading has no fault
pub no_fault_lem : (bytes : List ℕ) (r : Reading) (f : Dropped) → SpellsReading bytes r → IsFirstFault bytes f → ⊥
no_fault_lem bytes r f s (inl e) = header_clash bytes f s.1.header e
no_fault_lem bytes r f s (inr (inl h)) = h.1 s.0 s.1.spelled
no_fault_lem bytes r f s (inr (inr h)) =
    let both = one_answer bytes s.0 h.0 (Ok r) (Err f) s.1 h.1 s.2 h.2 in absurd cc

-- no bytes have two first faults
pub one_fault_lem : (bytes : List ℕ) (f g : Dropped) → IsFirstFault bytes f → IsFirstFault bytes g → f ≡ g
one_fault_lem bytes f g (inl d) (inl e) = let both : Some f ≡ Some g = sym d ∙ e in cc
one_fault_lem bytes f g (inl d) (inr (inl h)) = absurd (header_clash bytes f h.0 d)
one_fault_lem bytes f g (inl d) (inr (inr h)) = absurd (header_clash bytes f h.1.header d)
one_fault_lem bytes f g (inr (inl h)) (inl e) = absurd (header_clash bytes g h.0 e)
one_fault_lem bytes f g (inr (inl h)) (inr (inl k)) = h.2 ∙ sym k.2
one_fault_lem bytes f g (inr (inl h)) (inr (inr k)) = absurd (h.1 k.0 k.1.spelled)
one_fault_lem bytes f g (inr (inr h)) (inl e) = absurd (header_clash bytes g h.1.header e)
one_fault_lem bytes f g (inr (inr h)) (inr (inl k)) = absurd (k.1 h.0 h.1.spelled)
one_fault_lem bytes f g (inr (inr h)) (inr (inr k)) =
    let both = one_answer bytes h.0 k.0 (Err f) (Err g) h.1 k.1 h.2 k.2 in cc
