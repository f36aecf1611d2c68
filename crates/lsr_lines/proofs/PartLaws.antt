-- How a word is cut into parts.
use Rattle.std.proofs.Common.{◌≡◌, ◌≢◌, ◌<◌, ◌≤◌, ℕ, suc, List, [], ◌∷◌, ◌++◌, true, Option, Some, None, refl, ap, ◌∙◌, arith, get_or, length, ne_eqb, Bor, is_some}
use Rattle.std.proofs.lemmas.Bool.{true≢false}
use Rattle.std.specs.List.{onto_first}
use Rattle.std.proofs.lemmas.List.Splits.{slice_split-cons_no, length-slice_split}
use Rattle.lsr_lines.specs.Lsps.{is_slash, parts_of, parts_left}

-- a byte that is no slash goes onto the first part
part_more : (b : ℕ) (rest : List ℕ) → b ≢ 47 → parts_of (b ∷ rest) ≡ onto_first b (parts_of rest)
part_more b rest h = slice_split-cons_no is_slash b rest (ne_eqb b 47 h)

-- the first part ends at the first slash
pub parts_cut : (text part rest : List ℕ) → text ≡ part ++ (47 ∷ rest) → ((i : ℕ) → i < length part → get_or part i 0 ≢ 47) → parts_of text ≡ part ∷ parts_of rest
parts_cut text part rest e h = ap parts_of e ∙ go part h
  where
    go : (part : List ℕ) → ((i : ℕ) → i < length part → get_or part i 0 ≢ 47) → parts_of (part ++ (47 ∷ rest)) ≡ part ∷ parts_of rest
    go [] h = refl
    go (b ∷ part) h = part_more b (part ++ (47 ∷ rest)) (h 0 (omega arith)) ∙ ap (onto_first b) (go part (λ i l. h (suc i) (omega arith)))

-- a text without a slash is one part
pub parts_whole : (text : List ℕ) → ((i : ℕ) → i < length text → get_or text i 0 ≢ 47) → parts_of text ≡ text ∷ []
parts_whole [] h = refl
parts_whole (b ∷ text) h = part_more b text (h 0 (omega arith)) ∙ ap (onto_first b) (parts_whole text (λ i l. h (suc i) (omega arith)))

-- what is left has a part
pub more_parts : (left : Option (Bor (List ℕ))) → true ≡ is_some left → 1 ≤ length (parts_left left)
more_parts None e = absurd (true≢false e)
more_parts (Some text) e = omega (arith, length-slice_split is_slash text.now)
