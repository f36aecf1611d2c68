-- Subobjects say their own lengths, so a reader knows where each ends.
use Rattle.std.proofs.Common.{◌≡◌, ◌%◌, ◌++◌, refl, ℕ, List, length, get_or, take, sym, ap, ◌∙◌, arith}
use Rattle.std.proofs.lemmas.List.{get_or_append_left, length-append}
use Rattle.std.proofs.Math.Seq.{take-append_seam}
use Rattle.rsvp_bodies.specs.Reading.{SpellsEach}
use Rattle.rsvp_bodies.proofs.Sequences.{IsCut, SpellsEach-closed}
use Rattle.rsvp_bodies.specs.Subobjects.{IsSubobject}

-- two subobjects that the same bytes begin with are one
pub one_end : (first rest first' rest' : List ℕ) → first ++ rest ≡ first' ++ rest' → IsSubobject first → IsSubobject first' → first ≡ first'
one_end first rest first' rest' e s t =
    let here : get_or (first ++ rest) 1 0 ≡ get_or first 1 0 = get_or_append_left first rest 0 1 (omega (arith, s.at_least)) in
    let there : get_or (first' ++ rest') 1 0 ≡ get_or first' 1 0 = get_or_append_left first' rest' 0 1 (omega (arith, t.at_least)) in
    let joined : get_or (first ++ rest) 1 0 ≡ get_or (first' ++ rest') 1 0 = ap (λ (b : List ℕ). get_or b 1 0) e in
    let lengths : length first ≡ length first' = sym s.counted ∙ (sym here ∙ (joined ∙ (there ∙ t.counted))) in
    sym (take-append_seam first rest)
    ∙ (ap (λ (n : ℕ). take n (first ++ rest)) lengths
    ∙ (ap (λ (b : List ℕ). take (length first') b) e ∙ take-append_seam first' rest'))

-- bytes are cut into subobjects in one way
pub subobjects_cut : IsCut IsSubobject
subobjects_cut = record {
  not_empty = λ s. absurd (omega (arith, s.at_least));
  one_end = one_end;
}

-- what spells a list by subobjects is whole words
pub whole_words_spelled : {X : Type 0} (Spells : List ℕ → X → Type 0) → ((bytes : List ℕ) (x : X) → Spells bytes x → IsSubobject bytes) → (bytes : List ℕ) (xs : List X) → SpellsEach Spells bytes xs → length bytes % 4 ≡ 0
whole_words_spelled Spells is_subobject bytes xs s =
    let P : List ℕ → Type 0 = λ b. length b % 4 ≡ 0 in
    SpellsEach-closed Spells P refl (λ first rest f r. omega (arith, f, r, length-append first rest))
    (λ b x h. let p = is_subobject b x h in p.whole_words) bytes xs s
