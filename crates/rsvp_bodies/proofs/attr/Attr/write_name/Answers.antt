-- The three parts, one behind the other; as many zeros as the padding has.
use Rattle.std.proofs.Common.{◌≡◌, ◌<◌, ◌-◌, ◌%◌, ℕ, zero, suc, List, [], ◌∷◌, ◌++◌, length, take, Result, Ok, Err, OnOk, is_ok, if◌then◌else◌, refl, ap, ◌∙◌, arith, append_assoc, replicate}
use Rattle.std.specs.declared.alloc.AllocError.{AllocError}
use Rattle.rsvp_bodies.specs.Names.{padding}
use Rattle.rsvp_bodies.proofs.attr.Attr.write_name.Goals as goal

-- a word of zeros
abbrev zeros : List ℕ
zeros = 0 ∷ 0 ∷ 0 ∷ 0 ∷ []

-- so many of four zeros
zeros_taken : (n : ℕ) → n < 4 → take n zeros ≡ replicate n 0
zeros_taken zero h = refl
zeros_taken (suc zero) h = refl
zeros_taken (suc (suc zero)) h = refl
zeros_taken (suc (suc (suc zero))) h = refl
zeros_taken (suc (suc (suc (suc n)))) h = absurd (omega arith)

parts_joined : (old name : List ℕ) (setup hold flags : ℕ) → ((old ++ (setup ∷ hold ∷ flags ∷ length name ∷ [])) ++ name) ++ take ((4 - length name % 4) % 4) zeros
    ≡ old ++ (setup ∷ hold ∷ flags ∷ length name ∷ (name ++ padding (length name)))
parts_joined old name setup hold flags =
    let same : take ((4 - length name % 4) % 4) zeros ≡ padding (length name) = zeros_taken ((4 - length name % 4) % 4) (omega arith) in
    ap (λ (z : List ℕ). ((old ++ (setup ∷ hold ∷ flags ∷ length name ∷ [])) ++ name) ++ z) same ∙ simp append_assoc

written : (r : Result (Unit {0}) AllocError) (old one two new name : List ℕ) (setup hold flags pad : ℕ) → one ≡ old ++ (setup ∷ hold ∷ flags ∷ length name ∷ []) →
    two ≡ one ++ name → new ≡ (if is_ok r then two ++ take pad zeros else two) → pad ≡ (4 - length name % 4) % 4 →
    OnOk r (new ≡ old ++ (setup ∷ hold ∷ flags ∷ length name ∷ (name ++ padding (length name))))
written (Ok x) old one two new name setup hold flags pad first second third size =
    third ∙ ap (λ (n : ℕ). two ++ take n zeros) size
    ∙ ap (λ (front : List ℕ). front ++ take ((4 - length name % 4) % 4) zeros) (second ∙ ap (λ (front : List ℕ). front ++ name) first)
    ∙ parts_joined old name setup hold flags
written (Err e) old one two new name setup hold flags pad first second third size = tt

pub returns-clause-ok : goal.returns-clause-ok
returns-clause-ok c =
    let is_name = c.as_slice-name.ensures.bytes in
    rw (← is_name) (written c.extend_from_slice-3.result _ _ _ _ _ _ _ _ _ c.in_ok-extend_from_slice.ensures.items c.in_ok-extend_from_slice-2.ensures.items c.extend_from_slice-3.ensures.items c.padding_len.ensures)
