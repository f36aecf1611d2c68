-- What a reader of messages may answer.
use Rattle.std.proofs.Common.{◌≡◌, ℕ, Bool, true, false, List, Option, Some, None, Result, Ok, Err, refl, sym, ap, ◌∙◌, inl, inr}
use Rattle.std.specs.Prelude.{drop, slice_index, find}
use Rattle.std.specs.Option.{option_map, ok_or}
use Rattle.rsvp_bodies.specs.Reading.{SpellsEach}
use Rattle.rsvp_bodies.proofs.Sequences.{SpellsEach-unique}
use Rattle.rsvp_objects.specs.declared.object.Object.{Object}
use Rattle.rsvp_objects.specs.Raw.{Raw}
use Rattle.rsvp_objects.specs.Objects.{SpellsObject, raw_of}
use Rattle.rsvp_objects.proofs.ObjectCode.{object_code}
use Rattle.rsvp_contents.specs.declared.dropped.Dropped.{Dropped}
use Rattle.rsvp_contents.specs.declared.dropped.Dropped.TheVariants as dropped
use Rattle.rsvp_contents.specs.declared.messages.Content.{Content}
use Rattle.rsvp_contents.specs.declared.message.Reading.{Reading}
use Rattle.rsvp_contents.specs.declared.parts.Parts.{Parts}
use Rattle.rsvp_contents.specs.Behind.{flows_in, is_misplaced, looked_at}
use Rattle.rsvp_contents.specs.Counting.{class_of, refuses, has_class}
use Rattle.rsvp_contents.specs.Picking.{parts_in, passing_of, content_with, is_short, reading_of, content_in, kept_read, objects_read}
use Rattle.rsvp_contents.specs.Spelling.{header_fault, HasObjects, SpellsReading, IsFirstFault, IsMessage, ReadsMessage}
use Rattle.rsvp_contents.specs.Answers.{Tells, IsTold}
use Rattle.rsvp_contents.proofs.ReadMessages.{what_is_read_is_a_message_lem}
use Rattle.rsvp_messages.specs.Answering.{IsAnswer, reading_with}
use Rattle.rsvp_messages.specs.Counts.{SpellsCounting}

-- a fault is told where it is the first, and nothing but out of memory comes in place of a reading
told_fault : (bytes : List ℕ) (fault : Dropped) → IsFirstFault bytes fault → IsTold SpellsReading IsFirstFault bytes (Err fault)
told_fault bytes dropped.NoMemory h = tt
told_fault bytes _ h = h

no_reading : (fault : Dropped) (reading : Reading) → ⊥ → Tells (Err fault) reading
no_reading dropped.NoMemory reading h = tt
no_reading _ reading h = h

pub no_memory : (bytes : List ℕ) → ReadsMessage bytes (Err dropped.NoMemory)
no_memory bytes = record { told = tt; only = λ reading s. tt }

-- the header is at fault
pub bad_header : (bytes : List ℕ) (fault : Dropped) → header_fault bytes ≡ Some fault → ReadsMessage bytes (Err fault)
bad_header bytes fault e = record {
  told = told_fault bytes fault (inl e);
  only = λ reading s. no_reading fault reading (let h = s.1.header in absurd cc);
}

-- no objects are spelled behind the header
pub bad_objects : (bytes : List ℕ) → header_fault bytes ≡ None → ((objects : List Object) → SpellsEach SpellsObject (drop 8 bytes) objects → ⊥) → ReadsMessage bytes (Err dropped.ObjectLength)
bad_objects bytes e none = record {
  told = inr (inl (e, none, refl));
  only = λ reading s. none s.0 s.1.spelled;
}

-- the answer is what the objects say, or what is wrong with them
answered : (bytes : List ℕ) (objects : List Object) (answer : Result Reading Dropped) → HasObjects bytes objects → objects_read (slice_index bytes 1) objects ≡ answer → ReadsMessage bytes answer
answered bytes objects (Ok reading) has e = record {
  told = (objects, has, e);
  only = λ other s.
      let same : objects ≡ s.0 = SpellsEach-unique object_code (drop 8 bytes) objects s.0 has.spelled s.1.spelled in
      let both : Ok reading ≡ Ok other = sym e ∙ (ap (objects_read (slice_index bytes 1)) same ∙ s.2) in
      cc;
}
answered bytes objects (Err fault) has e = record {
  told = told_fault bytes fault (inr (inr (objects, has, e)));
  only = λ other s.
      let same : objects ≡ s.0 = SpellsEach-unique object_code (drop 8 bytes) objects s.0 has.spelled s.1.spelled in
      let both : Err fault ≡ Ok other = sym e ∙ (ap (objects_read (slice_index bytes 1)) same ∙ s.2) in
      no_reading fault other (absurd cc);
}

-- An answer that was made of the objects that count and are looked at.
pub kept_answered : (bytes : List ℕ) (counted : List Object) (answer : Result Reading Dropped) → None ≡ header_fault bytes → SpellsCounting (slice_index bytes 1) (drop 8 bytes) counted → IsAnswer answer (kept_read (slice_index bytes 1) (looked_at (slice_index bytes 1) counted)) → ReadsMessage bytes answer
kept_answered bytes counted answer header s is = by_answer answer is
  where
    has : HasObjects bytes s.objects
    has = record { header = sym header; spelled = s.spelled }

    said : objects_read (slice_index bytes 1) s.objects ≡ kept_read (slice_index bytes 1) (looked_at (slice_index bytes 1) counted)
    said = ap (λ (os : List Object). kept_read (slice_index bytes 1) (looked_at (slice_index bytes 1) os)) (sym s.count)

    by_answer : (answer : Result Reading Dropped) → IsAnswer answer (kept_read (slice_index bytes 1) (looked_at (slice_index bytes 1) counted)) → ReadsMessage bytes answer
    by_answer (Err dropped.NoMemory) is = no_memory bytes
    by_answer (Ok reading) is = answered bytes s.objects (Ok reading) has (said ∙ sym is)
    by_answer (Err dropped.Short) is = answered bytes s.objects (Err dropped.Short) has (said ∙ sym is)
    by_answer (Err dropped.Version) is = answered bytes s.objects (Err dropped.Version) has (said ∙ sym is)
    by_answer (Err dropped.LengthField) is = answered bytes s.objects (Err dropped.LengthField) has (said ∙ sym is)
    by_answer (Err dropped.Checksum) is = answered bytes s.objects (Err dropped.Checksum) has (said ∙ sym is)
    by_answer (Err dropped.ObjectLength) is = answered bytes s.objects (Err dropped.ObjectLength) has (said ∙ sym is)
    by_answer (Err dropped.MissingObject) is = answered bytes s.objects (Err dropped.MissingObject) has (said ∙ sym is)
    by_answer (Err dropped.KindUnsupported) is = answered bytes s.objects (Err dropped.KindUnsupported) has (said ∙ sym is)
    by_answer (Err dropped.Integrity) is = answered bytes s.objects (Err dropped.Integrity) has (said ∙ sym is)
    by_answer (Err dropped.TooLong) is = answered bytes s.objects (Err dropped.TooLong) has (said ∙ sym is)

-- What they say is a message.
pub kept_is_message : (bytes : List ℕ) (counted : List Object) (reading : Reading) → None ≡ header_fault bytes → SpellsCounting (slice_index bytes 1) (drop 8 bytes) counted → kept_read (slice_index bytes 1) (looked_at (slice_index bytes 1) counted) ≡ Ok reading → IsMessage (content_in reading)
kept_is_message bytes counted reading header s e =
    what_is_read_is_a_message_lem bytes reading
    (s.objects, record { header = sym header; spelled = s.spelled }, ap (λ (os : List Object). kept_read (slice_index bytes 1) (looked_at (slice_index bytes 1) os)) (sym s.count) ∙ e)

-- the answers, one by one
pub integrity_said : (type : ℕ) (os : List Object) → has_class 4 os ≡ true → Err dropped.Integrity ≡ kept_read type os
integrity_said type os e = rw e refl

pub too_long_said : (type : ℕ) (os flows : List Object) (parts : Parts) (passing : List Raw) → has_class 4 os ≡ false → parts ≡ parts_in type os → passing ≡ passing_of type os → flows ≡ flows_in type os → is_short type parts passing flows ≡ false → Err dropped.TooLong ≡ kept_read type os
too_long_said type os flows parts passing plain p q f short =
    let long = rw (p, q, f) at short in
    rw (plain, long) refl

-- what the objects say where limits are kept
said : (type : ℕ) (os flows : List Object) (parts : Parts) (passing : List Raw) (misplaced : Bool) (o : Option Content) → has_class 4 os ≡ false → parts ≡ parts_in type os → passing ≡ passing_of type os → flows ≡ flows_in type os → misplaced ≡ is_misplaced os →
    is_short type parts passing flows ≡ true → o ≡ content_with type parts passing misplaced flows → ok_or (option_map (λ content. reading_of content (find (refuses type) os)) o) dropped.MissingObject ≡ kept_read type os
said type os flows parts passing misplaced o plain p q f m short e =
    let kept = rw (p, q, f) at short in
    let found = rw (p, q, f, m) at e in
    rw (plain, kept, found) refl

-- the reading of the content that was found
made_so : (content : Content) (found : Option Object) → reading_with content (option_map (λ o. (class_of o, (raw_of o).ctype)) found) ≡ reading_of content found
made_so content None = refl
made_so content (Some o) = refl

pub reading_said : (type : ℕ) (os flows : List Object) (parts : Parts) (passing : List Raw) (misplaced : Bool) (content : Content) (r : Option (ℕ × ℕ)) → has_class 4 os ≡ false → parts ≡ parts_in type os → passing ≡ passing_of type os → flows ≡ flows_in type os → misplaced ≡ is_misplaced os →
    is_short type parts passing flows ≡ true → Some content ≡ content_with type parts passing misplaced flows → r ≡ option_map (λ o. (class_of o, (raw_of o).ctype)) (find (refuses type) os) → Ok (reading_with content r) ≡ kept_read type os
reading_said type os flows parts passing misplaced content r plain p q f m short e none =
    ap (λ (o : Reading). Ok o) (ap (reading_with content) none ∙ made_so content (find (refuses type) os))
    ∙ said type os flows parts passing misplaced (Some content) plain p q f m short e

-- the content of the reading that was made of it is that content
pub content_said : (content : Content) (r : Option (ℕ × ℕ)) → IsMessage (content_in (reading_with content r)) → IsMessage content
content_said content None is = is
content_said content (Some r) is = is
