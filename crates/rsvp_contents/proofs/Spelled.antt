-- What a message is written as spells it.
use Rattle.std.proofs.Common.{◌≡◌, ◌≤◌, ◌+◌, ℕ, List, ◌++◌, if◌then◌else◌, length, Option, Some, None, Bool, true, false, refl, ◌∙◌, arith}
use Rattle.std.specs.Prelude.{nat_lt, nat_eq, not}
use Rattle.std.specs.List.{All}
use Rattle.std.proofs.lemmas.Bool.{le-ltb, eq-eqb, cond-false, not_from_true}
use Rattle.byteorder.specs.Endian.{big_number, big_bytes}
use Rattle.byteorder.specs.Numbers.{big_number-reads_back}
use Rattle.internet_checksum.specs.Checksums.{with_checksum, checksum_of, has_good_checksum}
use Rattle.internet_checksum.proofs.WrittenFields.{written_is_good}
use Rattle.rsvp_bodies.proofs.Sequences.{SpellsEach-flat_map}
use Rattle.rsvp_objects.specs.Objects.{SpellsObject, spelling}
use Rattle.rsvp_contents.specs.declared.dropped.Dropped.{Dropped}
use Rattle.rsvp_contents.specs.declared.dropped.Dropped.TheVariants as dropped
use Rattle.rsvp_contents.specs.declared.messages.Content.{Content}
use Rattle.rsvp_contents.specs.declared.messages.Content.TheVariants as contents
use Rattle.rsvp_contents.specs.declared.message.Reading.TheVariants as readings
use Rattle.rsvp_contents.specs.Written.{objects_of, type_of, body_of, with_header, message_bytes}
use Rattle.rsvp_contents.specs.Spelling.{is_read_type, header_fault, IsMessage, SpellsReading}

-- the type of each content is one that is read
is_read_type-type_of : (content : Content) → is_read_type (type_of content) ≡ true
is_read_type-type_of (contents.Path p) = refl
is_read_type-type_of (contents.PathErr e) = refl
is_read_type-type_of (contents.PathTear t) = refl
is_read_type-type_of (contents.Resv r) = refl
is_read_type-type_of (contents.ResvErr e) = refl
is_read_type-type_of (contents.ResvTear t) = refl

-- a test that fails chooses what comes next
next : (test : Bool) (f : Dropped) (rest : Option Dropped) → test ≡ false → rest ≡ None → (if test then Some f else rest) ≡ None
next test f rest e h = cond-false test (Some f) rest e ∙ h

-- the header before a body that fits is good
good_header : (type : ℕ) (body : List ℕ) → is_read_type type ≡ true → 8 + length body ≤ 4096 →
    header_fault (with_checksum (checksum_of (with_header type body)) (with_header type body)) ≡ None
unfolding header_fault
good_header type body read fits =
    let whole = with_checksum (checksum_of (with_header type body)) (with_header type body) in
    let field : big_number 2 (big_bytes 2 (8 + length body) ++ body) ≡ 8 + length body = big_number-reads_back 2 (8 + length body) body (omega arith) in
    next (nat_lt (length whole) 8) dropped.Short _ (le-ltb (length whole) 8 (omega arith))
    (next (nat_lt 4096 (length whole)) dropped.TooLong _ (le-ltb 4096 (length whole) (omega arith))
    (next (not (nat_eq (big_number 2 (big_bytes 2 (8 + length body) ++ body)) (length whole))) dropped.LengthField _ (not_from_true _ (eq-eqb _ _ (omega arith)))
    (next (not (has_good_checksum whole)) dropped.Checksum _ (not_from_true _ (written_is_good (with_header type body) (omega arith)))
    (next (not (is_read_type type)) dropped.KindUnsupported None (not_from_true _ read) refl))))

-- what is written spells the content
pub what_is_written_spells_lem : (content : Content) → IsMessage content → All (λ o. SpellsObject (spelling o) o) (objects_of content) →
    SpellsReading (message_bytes content) (readings.Whole content)
what_is_written_spells_lem content is each = (
  objects_of content,
  record {
    header = good_header (type_of content) (body_of content) (is_read_type-type_of content) is.size;
    spelled = SpellsEach-flat_map SpellsObject spelling (objects_of content) each;
  },
  is.again,
)
