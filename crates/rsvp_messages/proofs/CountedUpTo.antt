-- How far a reader of the objects that count is.
use Rattle.std.proofs.Common.{◌≡◌, ◌≤◌, ◌<◌, ℕ, List, [], ◌∷◌, ◌++◌, length, take, drop, suc, zero, Err, sym, ap, subst, ◌∙◌, arith}
use Rattle.std.proofs.lemmas.List.{take-append-drop, length-drop, length-append}
use Rattle.std.proofs.Math.Seq.{take-append_seam}
use Rattle.std.proofs.lemmas.List.Sums.{fold-append}
use Rattle.rsvp_bodies.specs.Reading.{SpellsEach, ReadsFirst}
use Rattle.rsvp_bodies.specs.declared.fault.ObjectFault.{ObjectFault}
use Rattle.rsvp_bodies.specs.declared.fault.ObjectFault.TheVariants as faults
use Rattle.rsvp_bodies.proofs.Sequences.{IsReadUpTo, nothing_read, one_more_read, whole_read, none_read}
use Rattle.rsvp_objects.specs.declared.object.Object.{Object}
use Rattle.rsvp_objects.specs.Objects.{SpellsObject}
use Rattle.rsvp_objects.proofs.ObjectCode.{object_code}
use Rattle.rsvp_contents.specs.Counting.{counted, counting}
use Rattle.rsvp_messages.specs.Counts.{SpellsCounting}

-- Some objects were read, and `kept` are those of them that count.
pub record IsCountedUpTo (type : ℕ) (bytes : List ℕ) (kept : List Object) (rest : List ℕ) : Type 0 where
  pub front : List Object
  pub read : IsReadUpTo SpellsObject bytes front rest
  pub count : kept ≡ counting type front

-- before the first object
pub none_counted : (type : ℕ) (bytes : List ℕ) (kept : List Object) → kept ≡ [] → IsCountedUpTo type bytes kept bytes
none_counted type bytes kept e = record { front = []; read = nothing_read SpellsObject bytes; count = e }

-- one more object was read and counted in
pub one_more_counted : (type : ℕ) (bytes : List ℕ) (kept : List Object) (rest : List ℕ) (o : Object) (n : ℕ) → SpellsObject (take n rest) o → IsCountedUpTo type bytes kept rest → IsCountedUpTo type bytes (counted type kept o) (drop n rest)
one_more_counted type bytes kept rest o n h before = record {
  front = before.front ++ o ∷ [];
  read =
      one_more_read object_code bytes before.front (take n rest) (drop n rest) o h
      (subst (λ (b : List ℕ). IsReadUpTo SpellsObject bytes before.front b) (sym (take-append-drop n rest)) before.read);
  count = ap (λ (k : List Object). counted type k o) before.count ∙ sym (fold-append (counted type) [] before.front (o ∷ []));
}

-- the end was reached
pub all_counted : (type : ℕ) (bytes : List ℕ) (kept : List Object) (rest : List ℕ) → rest ≡ [] → IsCountedUpTo type bytes kept rest → SpellsCounting type bytes kept
all_counted type bytes kept rest e before = record {
  objects = before.front;
  spelled = (whole_read object_code bytes before.front (subst (λ (b : List ℕ). IsReadUpTo SpellsObject bytes before.front b) e before.read)).found;
  count = before.count;
}

-- the rest begins with no object: so the bytes spell no objects
pub no_object : (type : ℕ) (bytes : List ℕ) (kept : List Object) (rest : List ℕ) (fault : ObjectFault) → (rest ≡ [] → ⊥) → ReadsFirst SpellsObject rest (Err fault) → IsCountedUpTo type bytes kept rest → fault ≡ faults.Length → (objects : List Object) → SpellsEach SpellsObject bytes objects → ⊥
no_object type bytes kept rest fault left reads before e objects s =
    let length_fault : ReadsFirst SpellsObject rest (Err faults.Length) = subst (λ (f : ObjectFault). ReadsFirst SpellsObject rest (Err f)) e reads in
    (none_read bytes before.front rest left (λ x first after p h. stuck length_fault x first after p h) before.read).only objects s
  where
    stuck : ReadsFirst SpellsObject rest (Err faults.Length) → (x : Object) (first after : List ℕ) → rest ≡ first ++ after → SpellsObject first x → ⊥
    stuck r x first after p h =
        let at_front : take (length first) rest ≡ first = ap (λ (b : List ℕ). take (length first) b) p ∙ take-append_seam first after in
        r.only x (length first) (omega (arith, ap length p, length-append first after)) (subst (λ (b : List ℕ). SpellsObject b x) (sym at_front) h)

-- each object takes bytes away
pub object_shortens : (rest : List ℕ) (o : Object) (n : ℕ) → n ≤ length rest → SpellsObject (take n rest) o → length (drop n rest) < length rest
object_shortens rest o zero within h = absurd (object_code.not_empty o h)
object_shortens rest o (suc n) within h = omega (arith, length-drop (suc n) rest)
