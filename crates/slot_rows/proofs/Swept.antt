-- A sweep of rows from the last one down.
use Rattle.std.proofs.Common.{◌≡◌, ℕ, zero, suc, ◌<◌, Bool, true, false, cond, List, [], ◌∷◌, ◌++◌, length, get_or, map, set, take, drop, refl, append_assoc, sym, ap, ◌∙◌, arith}
use Rattle.std.specs.List.{filter, remove}
use Rattle.std.proofs.lemmas.List.{append-nil, set_split}

-- what is in front of a place, at it and after it
parted : {R : Type 0} (rows rest : List R) (k : ℕ) (d : R) → k < length rows → (take k (take (suc k) rows ++ rest) ≡ take k rows) × (get_or (take (suc k) rows ++ rest) k d ≡ get_or rows k d) × (drop (suc k) (take (suc k) rows ++ rest) ≡ rest) × (drop k rows ≡ get_or rows k d ∷ drop (suc k) rows)
parted [] rest k d within = absurd (omega (arith, within))
parted (row ∷ rows) rest zero d within = (refl, refl, refl, refl)
parted (row ∷ rows) rest (suc k) d within =
    let later = parted rows rest k d (omega (arith, within)) in
    (ap (λ rs. row ∷ rs) later.0, later.1, later.2, later.3)

module _ {R : Type 0} (stays : R → Bool) (left : R → R) where
  -- the rows that stay, as they are left
  abbrev pub swept : List R → List R
  swept rows = map left (filter stays rows)

  swept-cons : (row : R) (rows : List R) → swept (row ∷ rows) ≡ swept (row ∷ []) ++ swept rows
  swept-cons row rows =
      elim (stays row) as (λ b. map left (cond b (row ∷ filter stays rows) (filter stays rows)) ≡ map left (cond b (row ∷ []) []) ++ map left (filter stays rows)) [ true ↦ refl | false ↦ refl ]

  -- one place more
  pub swept_more : (all before now : List R) (k : ℕ) (d : R) → k < length all → before ≡ take (suc k) all ++ swept (drop (suc k) all) → now ≡ take k before ++ swept (get_or before k d ∷ []) ++ drop (suc k) before → now ≡ take k all ++ swept (drop k all)
  swept_more all before now k d within was is =
      let part = parted all (swept (drop (suc k) all)) k d within in
      is
      ∙ (λ i. take k (was i) ++ swept (get_or (was i) k d ∷ []) ++ drop (suc k) (was i))
      ∙ (λ i. part.0 i ++ swept (part.1 i ∷ []) ++ part.2 i)
      ∙ append_assoc (take k all) (swept (get_or all k d ∷ [])) (swept (drop (suc k) all))
      ∙ ap (λ rs. take k all ++ rs) (sym (ap swept part.3 ∙ swept-cons (get_or all k d) (drop (suc k) all)))

  -- a row that stays
  pub swept_stays : (rows : List R) (i : ℕ) (row : R) → i < length rows → stays row ≡ true → set rows i (left row) ≡ take i rows ++ swept (row ∷ []) ++ drop (suc i) rows
  swept_stays rows i row within is =
      set_split rows i (left row) within
      ∙ sym (append_assoc (take i rows) (left row ∷ []) (drop (suc i) rows))
      ∙ ap (λ b. take i rows ++ map left (cond b (row ∷ []) []) ++ drop (suc i) rows) (sym is)

  -- and one that goes
  pub swept_goes : (rows : List R) (i : ℕ) (row : R) → stays row ≡ false → remove rows i ≡ take i rows ++ swept (row ∷ []) ++ drop (suc i) rows
  swept_goes rows i row is =
      ap (λ rs. rs ++ drop (suc i) rows) (sym (append-nil (take i rows)))
      ∙ ap (λ b. take i rows ++ map left (cond b (row ∷ []) []) ++ drop (suc i) rows) (sym is)
