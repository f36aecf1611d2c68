-- Objects that have their lines, and one more; a message that was read has a header, and one for which there is no memory.
use Rattle.std.proofs.Common.{◌≡◌, ℕ, List, [], ◌∷◌, ◌++◌, sym, ap, ◌∙◌, append_assoc, append-nil, None, Some, Option, Result, Ok, Err, IfOk, OnOk, Bool, true, false, refl, nat_lt, ◌≤◌, length, arith}
use Rattle.std.specs.Prelude.{IfSome, if◌then◌else◌}
use Rattle.std.proofs.lemmas.Bool.Decides.{nat_tests}
use Rattle.rsvp_contents.specs.declared.dropped.Dropped.{Dropped}
use Rattle.rsvp_contents.specs.declared.dropped.Dropped.TheVariants as dropped
use Rattle.rsvp_contents.specs.declared.message.Reading.{Reading}
use Rattle.rsvp_contents.specs.Answers.{IsTold}
use Rattle.std.specs.List.{flat_map}
use Rattle.std.proofs.lemmas.List.Concat.{flat_map-append}
use Rattle.rsvp_objects.specs.Raw.{Raw}
use Rattle.rsvp_objects.specs.declared.object.Object.{Object}
use Rattle.rsvp_contents.specs.Spelling.{IsFirstFault, SpellsReading, header_fault}
use Rattle.std.specs.Io.KnownBytes.{Appends}
use Rattle.lsr_decode.specs.declared.decoding.Decoded.{Decoded}
use Rattle.lsr_decode.specs.Decoding.{Decodes, RefusesMessage, bytes_of, decoded_status, object_lines, shown_text, told_text}

flat_push : {A : Type 0} (f : A → List ℕ) (xs : List A) (x : A) → flat_map f (xs ++ (x ∷ [])) ≡ flat_map f xs ++ f x
flat_push f xs x = flat_map-append f xs (x ∷ []) ∙ ap (λ l. flat_map f xs ++ l) (append-nil (f x))

pub parts_push : (bytes rest left : List ℕ) (objects : List (Raw × Object)) (o : Raw × Object) → bytes ≡ flat_map bytes_of objects ++ rest → rest ≡ bytes_of o ++ left → bytes ≡ flat_map bytes_of (objects ++ (o ∷ [])) ++ left
parts_push bytes rest left objects o e f =
    e ∙ ap (λ l. flat_map bytes_of objects ++ l) f ∙ sym (append_assoc (flat_map bytes_of objects) (bytes_of o) left) ∙ ap (λ l. l ++ left) (sym (flat_push bytes_of objects o))

pub lines_push : (fields : Bool) (old new : List ℕ) (objects : List (Raw × Object)) (o : Raw × Object) → old ≡ flat_map (object_lines fields) objects → new ≡ old ++ object_lines fields o → new ≡ flat_map (object_lines fields) (objects ++ (o ∷ []))
lines_push fields old new objects o e f = f ∙ ap (λ l. l ++ object_lines fields o) e ∙ sym (flat_push (object_lines fields) objects o)

-- where nothing is left they are all
pub all_parts : (bytes rest parts : List ℕ) → bytes ≡ parts ++ rest → rest ≡ [] → bytes ≡ parts
all_parts bytes rest parts e none = e ∙ ap (λ l. parts ++ l) none ∙ append-nil parts

not_short : (b : Bool) (fault : Dropped) (rest : Option Dropped) → (if b then Some fault else rest) ≡ None → b ≡ false
not_short true fault rest h = let t = h in cc
not_short false fault rest h = refl

-- a message with a good header has one
pub has_header : (bytes : List ℕ) → header_fault bytes ≡ None → 8 ≤ length bytes
unfolding header_fault
has_header bytes h = let f = not_short (nat_lt (length bytes) 8) _ _ h in grind (arith, nat_tests)

-- no fault of a header is that memory ran out
past : (b : Bool) (fault : Dropped) (rest : Option Dropped) → (Some fault ≡ Some dropped.NoMemory → ⊥) → (rest ≡ Some dropped.NoMemory → ⊥) → (if b then Some fault else rest) ≡ Some dropped.NoMemory → ⊥
past true fault rest one more h = one h
past false fault rest one more h = more h

nothing : None ≡ Some dropped.NoMemory → ⊥
nothing h = let t = h in cc

header_memory : (bytes : List ℕ) → header_fault bytes ≡ Some dropped.NoMemory → ⊥
unfolding header_fault
header_memory bytes =
    past _ dropped.Short _ (λ h. let t = h in cc) (past _ dropped.Version _ (λ h. let t = h in cc) (past _ dropped.TooLong _ (λ h. let t = h in cc) (past _ dropped.LengthField _ (λ h. let t = h in cc)
    (past _ dropped.Checksum _ (λ h. let t = h in cc) (past _ dropped.KindUnsupported _ (λ h. let t = h in cc) nothing)))))

abbrev dropped_for : Dropped → Result Reading Dropped
dropped_for fault = Err fault

none_left : (found : Option Dropped) → (found ≡ Some dropped.NoMemory → ⊥) → IfSome found (λ fault. dropped_for dropped.NoMemory ≡ dropped_for fault) → found ≡ None
none_left None none h = refl
none_left (Some fault) none h = absurd (none (let t = h in cc))

-- what a message is refused for that isn't read; its header's fault is told in any case
pub refused_for : (bytes : List ℕ) (fault : Dropped) → IsTold SpellsReading IsFirstFault bytes (dropped_for fault) → IfSome (header_fault bytes) (λ first. dropped_for fault ≡ dropped_for first) → RefusesMessage bytes fault
refused_for bytes dropped.Short told header = told
refused_for bytes dropped.Version told header = told
refused_for bytes dropped.LengthField told header = told
refused_for bytes dropped.Checksum told header = told
refused_for bytes dropped.ObjectLength told header = told
refused_for bytes dropped.MissingObject told header = told
refused_for bytes dropped.KindUnsupported told header = told
refused_for bytes dropped.Integrity told header = told
refused_for bytes dropped.TooLong told header = told
refused_for bytes dropped.NoMemory told header = none_left (header_fault bytes) (header_memory bytes) header

-- what was told of a word that was decoded so
pub told_for : {E : Type 0} (result : Result ℕ E) (fields : Bool) (word : List ℕ) (decoded : Decoded) (before after old new : Option (List ℕ)) → Decodes fields word decoded → IfOk result (λ status. status ≡ decoded_status decoded) → OnOk result (Appends before after (shown_text decoded))
    → OnOk result (Appends old new (told_text decoded)) → IfOk result (λ status. (d : Decoded) × Decodes fields word d × (status ≡ decoded_status d) × Appends before after (shown_text d) × Appends old new (told_text d))
told_for (Ok status) fields word decoded before after old new decodes is shown told = (decoded, decodes, is, shown, told)
told_for (Err error) fields word decoded before after old new decodes is shown told = tt
