-- What stands in a list for the items of another, each with its place: one item further, and at the end.
use Rattle.std.proofs.Common.{◌≡◌, ◌∙◌, ◌+◌, ◌<◌, ◌≤◌, ◌++◌, ◌∷◌, ℕ, List, [], ap, append-nil, append_assoc, drop, get_or, length, map, sym}
use Rattle.std.proofs.lemmas.List.{drop_all, drop_more}
use Rattle.std.specs.List.{enumerate_from, flat_map}

-- the lines of the items so far and those of the others are all; so they are with the line of one more
pub more_lines : {X : Type 0} (line : ℕ × X → List ℕ) (xs : List X) (i : ℕ) (d : X) (all old new : List ℕ) → i < length xs → old ++ flat_map line (enumerate_from i (drop i xs)) ≡ all
    → new ≡ old ++ line (i, get_or xs i d) → new ++ flat_map line (enumerate_from (i + 1) (drop (i + 1) xs)) ≡ all
more_lines {X} line xs i d all old new within so_far grown =
    let others : List ℕ = flat_map line (enumerate_from (i + 1) (drop (i + 1) xs)) in
    ap (λ (text : List ℕ). text ++ others) grown ∙ append_assoc old (line (i, get_or xs i d)) others
    ∙ ap (λ (left : List X). old ++ flat_map line (enumerate_from i left)) (sym (drop_more xs i d within)) ∙ so_far

-- and those of all items are all
pub all_lines : {X : Type 0} (line : ℕ × X → List ℕ) (xs : List X) (i : ℕ) (all text : List ℕ) → length xs ≤ i → text ++ flat_map line (enumerate_from i (drop i xs)) ≡ all → text ≡ all
all_lines {X} line xs i all text over so_far =
    sym (append-nil text) ∙ ap (λ (left : List X). text ++ flat_map line (enumerate_from i left)) (sym (drop_all i xs over)) ∙ so_far

-- the same of a list with one item for each
pub more_items : {X A : Type 0} (item : ℕ × X → A) (xs : List X) (i : ℕ) (d : X) (all old new : List A) → i < length xs → old ++ map item (enumerate_from i (drop i xs)) ≡ all
    → new ≡ old ++ item (i, get_or xs i d) ∷ [] → new ++ map item (enumerate_from (i + 1) (drop (i + 1) xs)) ≡ all
more_items {X} {A} item xs i d all old new within so_far grown =
    let others : List A = map item (enumerate_from (i + 1) (drop (i + 1) xs)) in
    ap (λ (items : List A). items ++ others) grown ∙ append_assoc old (item (i, get_or xs i d) ∷ []) others
    ∙ ap (λ (left : List X). old ++ map item (enumerate_from i left)) (sym (drop_more xs i d within)) ∙ so_far

pub all_items : {X A : Type 0} (item : ℕ × X → A) (xs : List X) (i : ℕ) (all items : List A) → length xs ≤ i → items ++ map item (enumerate_from i (drop i xs)) ≡ all → items ≡ all
all_items {X} {A} item xs i all items over so_far =
    sym (append-nil items) ∙ ap (λ (left : List X). items ++ map item (enumerate_from i left)) (sym (drop_all i xs over)) ∙ so_far
