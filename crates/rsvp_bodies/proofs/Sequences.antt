-- Laws of lists that are spelled member by member (`SpellsEach`), for any relation that says which
-- bytes spell which value.
use Rattle.std.proofs.Common.{◌≡◌, ◌++◌, ℕ, List, [], ◌∷◌, length, take, drop, Ok, Err, refl, sym, ap, subst, ◌∙◌, arith}
use Rattle.std.specs.List.{flat_map, All}
use Rattle.std.proofs.lemmas.List.{append_assoc, append_cancel_left, append-nil, length-append, take-append-drop}
use Rattle.std.proofs.Math.Seq.{take-append_seam}
use Rattle.std.proofs.lemmas.List.Elements.{All-head, All-tail}
use Rattle.rsvp_bodies.specs.Reading.{SpellsEach, ReadsWhole, ReadsFirst}
use Rattle.rsvp_bodies.specs.declared.fault.ObjectFault.{ObjectFault}
use Rattle.rsvp_bodies.specs.declared.fault.ObjectFault.TheVariants.{Length, Memory}

-- Bytes are cut into parts in one way: no part is empty, and no part begins another.
pub record IsCut (IsPart : List ℕ → Type 0) : Type 0 where
  pub not_empty : IsPart [] → ⊥
  pub one_end : (first rest first' rest' : List ℕ) → first ++ rest ≡ first' ++ rest' → IsPart first → IsPart first' → first ≡ first'

-- A reader knows where a value ends, and which it is: no value is spelled by no bytes, no spelling begins
-- another, and no bytes spell two values.
pub record IsCode {X : Type 0} (Spells : List ℕ → X → Type 0) : Type 0 where
  pub not_empty : (x : X) → Spells [] x → ⊥
  pub one_end : (first rest first' rest' : List ℕ) (x y : X) → first ++ rest ≡ first' ++ rest' → Spells first x → Spells first' y → first ≡ first'
  pub one_value : (bytes : List ℕ) (x y : X) → Spells bytes x → Spells bytes y → x ≡ y

-- How far a reader of a list is: what was read, followed by what the rest spells, is what all the bytes
-- spell.
pub record IsReadUpTo {X : Type 0} (Spells : List ℕ → X → Type 0) (bytes : List ℕ) (items : List X) (rest : List ℕ) : Type 0 where
  pub found : (tail : List X) → SpellsEach Spells rest tail → SpellsEach Spells bytes (items ++ tail)
  pub only : (xs : List X) → SpellsEach Spells bytes xs → (tail : List X) × (xs ≡ items ++ tail) × SpellsEach Spells rest tail

-- values that are each spelled by one part have a code, if no part spells two
pub code_by_parts : {X : Type 0} {Spells : List ℕ → X → Type 0} {IsPart : List ℕ → Type 0} → IsCut IsPart → ((bytes : List ℕ) (x : X) → Spells bytes x → IsPart bytes) → ((bytes : List ℕ) (x y : X) → Spells bytes x → Spells bytes y → x ≡ y) → IsCode Spells
code_by_parts cut is_part one_value = record {
  not_empty = λ x s. cut.not_empty (is_part [] x s);
  one_end = λ first rest first' rest' x y e s t. cut.one_end first rest first' rest' e (is_part first x s) (is_part first' y t);
  one_value = one_value;
}

-- where two parts make nothing, the first is nothing
nil_from_append : (first rest : List ℕ) → [] ≡ first ++ rest → first ≡ []
nil_from_append [] rest e = refl
nil_from_append (b ∷ first) rest e = cc

-- no bytes spell only the empty list
pub SpellsEach-nil : {X : Type 0} {Spells : List ℕ → X → Type 0} → IsCode Spells → (xs : List X) → SpellsEach Spells [] xs → xs ≡ []
SpellsEach-nil code [] s = refl
SpellsEach-nil {Spells} code (x ∷ xs) s =
    absurd (code.not_empty x (subst (λ (b : List ℕ). Spells b x) (nil_from_append s.0 s.1 s.2) s.3))

-- the spelling of one value is that of the list of it
pub SpellsEach-one : {X : Type 0} (Spells : List ℕ → X → Type 0) (bytes : List ℕ) (x : X) → Spells bytes x → SpellsEach Spells bytes (x ∷ [])
SpellsEach-one Spells bytes x s = (bytes, [], sym (append-nil bytes), s, refl)

-- what spells one list and then what spells another spells both
pub SpellsEach-append : {X : Type 0} (Spells : List ℕ → X → Type 0) (bytes more : List ℕ) (xs ys : List X) → SpellsEach Spells bytes xs → SpellsEach Spells more ys → SpellsEach Spells (bytes ++ more) (xs ++ ys)
SpellsEach-append Spells bytes more [] ys s t = rw s t
SpellsEach-append Spells bytes more (x ∷ xs) ys s t =
    (s.0, s.1 ++ more, ap (λ (b : List ℕ). b ++ more) s.2 ∙ append_assoc s.0 s.1 more, s.3, SpellsEach-append Spells s.1 more xs ys s.4 t)

-- what spells two lists joined is what spells the first and then what spells the second
pub SpellsEach-split : {X : Type 0} (Spells : List ℕ → X → Type 0) (bytes : List ℕ) (xs ys : List X) → SpellsEach Spells bytes (xs ++ ys) → (front : List ℕ) × (back : List ℕ) × (bytes ≡ front ++ back) × SpellsEach Spells front xs × SpellsEach Spells back ys
SpellsEach-split Spells bytes [] ys s = ([], bytes, refl, refl, s)
SpellsEach-split Spells bytes (x ∷ xs) ys s =
    let p = SpellsEach-split Spells s.1 xs ys s.4 in
    (s.0 ++ p.0, p.1, s.2 ∙ (ap (λ (b : List ℕ). s.0 ++ b) p.2 ∙ sym (append_assoc s.0 p.0 p.1)), (s.0, p.0, refl, s.3, p.3), p.4)

-- after the spelling of one value comes the rest of the list, which that value begins
pub SpellsEach-after : {X : Type 0} {Spells : List ℕ → X → Type 0} → IsCode Spells → (first rest : List ℕ) (x : X) (xs : List X) → Spells first x → SpellsEach Spells (first ++ rest) xs → (tail : List X) × (xs ≡ x ∷ tail) × SpellsEach Spells rest tail
SpellsEach-after {Spells} code first rest x [] h s =
    absurd (code.not_empty x (subst (λ (b : List ℕ). Spells b x) (nil_from_append first rest (sym s)) h))
SpellsEach-after {Spells} code first rest x (y ∷ ys) h s =
    let same : first ≡ s.0 = code.one_end first rest s.0 s.1 x y s.2 h s.3 in
    let rests : rest ≡ s.1 = append_cancel_left first rest s.1 (s.2 ∙ ap (λ (b : List ℕ). b ++ s.1) (sym same)) in
    let values : x ≡ y = code.one_value s.0 x y (subst (λ (b : List ℕ). Spells b x) same h) s.3 in
    (ys, ap (λ v. v ∷ ys) (sym values), subst (λ (b : List ℕ). SpellsEach Spells b ys) (sym rests) s.4)

-- no bytes spell two lists
pub SpellsEach-unique : {X : Type 0} {Spells : List ℕ → X → Type 0} → IsCode Spells → (bytes : List ℕ) (xs ys : List X) → SpellsEach Spells bytes xs → SpellsEach Spells bytes ys → xs ≡ ys
SpellsEach-unique {Spells} code bytes [] ys s t = sym (SpellsEach-nil code ys (subst (λ (b : List ℕ). SpellsEach Spells b ys) s t))
SpellsEach-unique {Spells} code bytes (x ∷ xs) ys s t =
    let p = SpellsEach-after code s.0 s.1 x ys s.3 (subst (λ (b : List ℕ). SpellsEach Spells b ys) s.2 t) in
    ap (λ v. x ∷ v) (SpellsEach-unique code s.1 xs p.0 s.4 p.2) ∙ sym p.1

-- what values are written as, one behind the other, spells their list
pub SpellsEach-flat_map : {X : Type 0} (Spells : List ℕ → X → Type 0) (spelling : X → List ℕ) (xs : List X) → All (λ x. Spells (spelling x) x) xs → SpellsEach Spells (flat_map spelling xs) xs
SpellsEach-flat_map Spells spelling [] h = refl
SpellsEach-flat_map {X} Spells spelling (x ∷ xs) h =
    let P : X → Type 0 = λ v. Spells (spelling v) v in
    (spelling x, flat_map spelling xs, refl, All-head P x xs h, SpellsEach-flat_map Spells spelling xs (All-tail P x xs h))

-- a list is written as long as what spells it, if each value is
pub length-flat_map-spelled : {X : Type 0} (Spells : List ℕ → X → Type 0) (spelling : X → List ℕ) → ((bytes : List ℕ) (x : X) → Spells bytes x → length (spelling x) ≡ length bytes) → (bytes : List ℕ) (xs : List X) → SpellsEach Spells bytes xs → length (flat_map spelling xs) ≡ length bytes
length-flat_map-spelled Spells spelling same bytes [] s = ap length (sym s)
length-flat_map-spelled Spells spelling same bytes (x ∷ xs) s =
    let here = same s.0 x s.3 in
    let there = length-flat_map-spelled Spells spelling same s.1 xs s.4 in
    omega (arith, ap length s.2, length-append s.0 s.1, length-append (spelling x) (flat_map spelling xs))

-- what is true of no bytes, of the bytes of each value and of two parts joined is true of what spells a list
pub SpellsEach-closed : {X : Type 0} (Spells : List ℕ → X → Type 0) (P : List ℕ → Type 0) → P [] → ((first rest : List ℕ) → P first → P rest → P (first ++ rest)) → ((bytes : List ℕ) (x : X) → Spells bytes x → P bytes) → (bytes : List ℕ) (xs : List X) → SpellsEach Spells bytes xs → P bytes
SpellsEach-closed Spells P none join each bytes [] s = subst P (sym s) none
SpellsEach-closed Spells P none join each bytes (x ∷ xs) s =
    subst P (sym s.2) (join s.0 s.1 (each s.0 x s.3) (SpellsEach-closed Spells P none join each s.1 xs s.4))

-- before the first value everything is left
pub nothing_read : {X : Type 0} (Spells : List ℕ → X → Type 0) (bytes : List ℕ) → IsReadUpTo Spells bytes [] bytes
nothing_read Spells bytes = record { found = λ tail s. s; only = λ xs s. (xs, refl, s) }

-- one more value was read
pub one_more_read : {X : Type 0} {Spells : List ℕ → X → Type 0} → IsCode Spells → (bytes : List ℕ) (items : List X) (first rest : List ℕ) (x : X) → Spells first x → IsReadUpTo Spells bytes items (first ++ rest) → IsReadUpTo Spells bytes (items ++ x ∷ []) rest
one_more_read {X} {Spells} code bytes items first rest x h before = record {
  found = λ tail s.
      subst (λ (v : List X). SpellsEach Spells bytes v) (sym (append_assoc items (x ∷ []) tail))
      (before.found (x ∷ tail) (first, rest, refl, h, s));
  only = λ xs s.
      let p = before.only xs s in
      let q = SpellsEach-after code first rest x p.0 h p.2 in
      (q.0, p.1 ∙ (ap (λ (v : List X). items ++ v) q.1 ∙ sym (append_assoc items (x ∷ []) q.0)), q.2);
}

-- the end is reached: what was read is the answer
pub whole_read : {X : Type 0} {Spells : List ℕ → X → Type 0} → IsCode Spells → (bytes : List ℕ) (items : List X) → IsReadUpTo Spells bytes items [] → ReadsWhole (SpellsEach Spells) bytes (Ok items)
whole_read {X} {Spells} code bytes items before = record {
  found = subst (λ (v : List X). SpellsEach Spells bytes v) (append-nil items) (before.found [] refl);
  only = λ xs s.
      let p = before.only xs s in
      let none = SpellsEach-nil code p.0 p.2 in
      sym (p.1 ∙ (ap (λ (v : List X). items ++ v) none ∙ append-nil items));
}

-- the rest is not empty and begins with no spelling: so the bytes spell no list
pub none_read : {X : Type 0} {Spells : List ℕ → X → Type 0} (bytes : List ℕ) (items : List X) (rest : List ℕ) → (rest ≡ [] → ⊥) → ((x : X) (first after : List ℕ) → rest ≡ first ++ after → Spells first x → ⊥) → IsReadUpTo Spells bytes items rest → ReadsWhole (SpellsEach Spells) bytes (Err Length)
none_read {X} {Spells} bytes items rest left stuck before = record {
  found = tt;
  only = λ xs s. let p = before.only xs s in spells_none p.0 p.2;
}
  where
    spells_none : (tail : List X) → SpellsEach Spells rest tail → ⊥
    spells_none [] t = left t
    spells_none (y ∷ ys) t = stuck y t.0 t.1 t.2 t.3

-- out of memory may come in place of any answer
pub memory_read : {X : Type 0} (Spells : List ℕ → X → Type 0) (bytes : List ℕ) → ReadsWhole Spells bytes (Err Memory)
memory_read Spells bytes = record { found = tt; only = λ x s. tt }

-- the part that the rest begins with was refused, and so is the list
pub part_refused : {X : Type 0} {Spells : List ℕ → X → Type 0} {IsPart : List ℕ → Type 0} → IsCut IsPart → ((bytes : List ℕ) (x : X) → Spells bytes x → IsPart bytes) → (bytes : List ℕ) (items : List X) (first after : List ℕ) (fault : ObjectFault) → IsPart first → ReadsWhole Spells first (Err fault) → IsReadUpTo Spells bytes items (first ++ after) → ReadsWhole (SpellsEach Spells) bytes (Err fault)
part_refused {X} {Spells} {IsPart} cut is_part bytes items first after Memory h refused before =
    memory_read (SpellsEach Spells) bytes
part_refused {X} {Spells} {IsPart} cut is_part bytes items first after Length h refused before =
    none_read bytes items (first ++ after)
    (λ e. cut.not_empty (subst IsPart (nil_from_append first after (sym e)) h))
    (λ x first' after' e s.
    refused.only x
    (subst (λ (b : List ℕ). Spells b x) (sym (cut.one_end first after first' after' e h (is_part first' x s))) s))
    before

-- the same for a reader that says how many bytes its value took: one more value was read
pub one_more_read_first : {X : Type 0} {Spells : List ℕ → X → Type 0} → IsCode Spells → (bytes : List ℕ) (items : List X) (rest : List ℕ) (x : X) (n : ℕ) → ReadsFirst Spells rest (Ok (x, n)) → IsReadUpTo Spells bytes items rest → IsReadUpTo Spells bytes (items ++ x ∷ []) (drop n rest)
one_more_read_first {X} {Spells} code bytes items rest x n answer before =
    one_more_read code bytes items (take n rest) (drop n rest) x answer.found
    (subst (λ (b : List ℕ). IsReadUpTo Spells bytes items b) (sym (take-append-drop n rest)) before)

-- or the rest was refused, and so is the list
pub first_refused : {X : Type 0} {Spells : List ℕ → X → Type 0} (bytes : List ℕ) (items : List X) (rest : List ℕ) (fault : ObjectFault) → (rest ≡ [] → ⊥) → ReadsFirst Spells rest (Err fault) → IsReadUpTo Spells bytes items rest → ReadsWhole (SpellsEach Spells) bytes (Err fault)
first_refused {X} {Spells} bytes items rest Memory left refused before = memory_read (SpellsEach Spells) bytes
first_refused {X} {Spells} bytes items rest Length left refused before =
    none_read bytes items rest left
    (λ x first after e s.
    let front : take (length first) rest ≡ first = ap (λ (b : List ℕ). take (length first) b) e ∙ take-append_seam first after in
    refused.only x (length first) (omega (arith, ap length e, length-append first after))
    (subst (λ (b : List ℕ). Spells b x) (sym front) s))
    before
