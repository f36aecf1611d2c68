-- One more row is looked at: what is asked of its key is put, if there is anything.
use Rattle.std.specs.Prelude.{◌≡◌, ◌+◌, ◌<◌, ℕ, suc, zero, true, false, cond, List, [], ◌∷◌, Option, Some, None, length, take, slice_get}
use Rattle.std.specs.Cmp.{IsTotalOrder}
use Rattle.std.specs.FinMap.Entries.{find, put}
use Rattle.std.specs.Option.{option_and_then, option_map_or, option_or}
use Rattle.std.specs.Ordering.{eq_by_cmp}
use Rattle.std.specs.declared.cmp.Ordering.{Ordering}
use Rattle.std.specs.declared.cmp.Ordering.TheVariants.{Equal}
use Rattle.std.proofs.Common.{get_or, refl, sym, ap, subst, ◌∙◌, add-one}
use Rattle.std.proofs.lemmas.Option.{get_or_from_slice_get, slice_get_within}
use Rattle.sorted_rows.specs.RowsLaws.{find-put_other, find-put_same, ties}
use Rattle.make_before_break.specs.SwitchingLaws.{or_none}
use Rattle.make_before_break.proofs.Places.{find-one_more}

-- what is given of a row, or else what was there
abbrev given_or : {V E : Type 0} → Option V → Option E → Option V → Option V
given_or given row was = option_or (option_and_then (λ row. given) row) was

-- a key that was asked twice, or once
again : {V E : Type 0} (given : Option V) (row : Option E) (more : E) (was : Option V) → option_or given (given_or given row was) ≡ given_or given (option_or row (Some more)) was
again None None more was = refl
again None (Some x) more was = refl
again (Some v) None more was = refl
again (Some v) (Some x) more was = refl

-- past the last there is no more
take-past : {X : Type 0} (xs : List X) (i : ℕ) → slice_get xs i ≡ None → take (suc i) xs ≡ take i xs
take-past [] zero none = refl
take-past [] (suc i) none = refl
take-past (x ∷ xs) zero none = absurd (let e = none in cc)
take-past (x ∷ xs) (suc i) none = ap (λ ys. x ∷ ys) (take-past xs i none)

module _ {K V : Type 0} (cmp : K → K → Ordering) (total : IsTotalOrder cmp) where
  -- what is found of the key that is asked,
  find-same : (key : K) (given : Option V) (rows : List (K × V)) → find cmp key (option_map_or (λ v. put cmp key v rows) given rows) ≡ option_or given (find cmp key rows)
  find-same key None rows = refl
  find-same key (Some v) rows = find-put_same cmp total key v rows

  -- and of every other
  find-other : (q key : K) (given : Option V) (rows : List (K × V)) → eq_by_cmp cmp q key ≡ false → find cmp q (option_map_or (λ v. put cmp key v rows) given rows) ≡ find cmp q rows
  find-other q key None rows apart = refl
  find-other q key (Some v) rows apart = find-put_other cmp total q key v rows apart

module _ {K V E : Type 0} (cmp : K → K → Ordering) (total : IsTotalOrder cmp) (exact : (x y : K) → cmp x y ≡ Equal → x ≡ y) (rows : List (K × E)) (i : ℕ) (ask : K → Option V) (first before after : List (K × V)) where
  -- So it is found then, if it was found before or is put.
  pub one_asked : (row : K × E) → i < length rows → row ≡ get_or rows i row → after ≡ option_map_or (λ v. put cmp row.0 v before) (ask row.0) before
      → ((q : K) → find cmp q before ≡ option_or (option_and_then (λ found. ask q) (find cmp q (take i rows))) (find cmp q first))
      → (q : K) → find cmp q after ≡ option_or (option_and_then (λ found. ask q) (find cmp q (take (i + 1) rows))) (find cmp q first)
  one_asked row within is is_put known q =
      ap (find cmp q) is_put
      ∙ elim (eq_by_cmp cmp q row.0) as (λ b. eq_by_cmp cmp q row.0 ≡ b → find cmp q (option_map_or (λ v. put cmp row.0 v before) (ask row.0) before) ≡ given_or (ask q) (option_or (find cmp q (take i rows)) (cond b (Some row.1) None)) (find cmp q first)) [
        | true ↦ λ t.
            subst (λ k. find cmp k (option_map_or (λ v. put cmp row.0 v before) (ask row.0) before) ≡ given_or (ask k) (option_or (find cmp k (take i rows)) (Some row.1)) (find cmp k first)) (sym (exact q row.0 (ties _ t)))
            (find-same cmp total row.0 (ask row.0) before
            ∙ ap (option_or (ask row.0)) (known row.0)
            ∙ again (ask row.0) (find cmp row.0 (take i rows)) row.1 (find cmp row.0 first))
        | false ↦ λ t.
            find-other cmp total q row.0 (ask row.0) before t ∙ known q ∙ ap (λ o. given_or (ask q) o (find cmp q first)) (sym (or_none (find cmp q (take i rows))))
      ] refl
      ∙ ap (λ o. given_or (ask q) o (find cmp q first)) (sym (find-one_more cmp rows i row within is q))

  -- And so it is at a place, whether there is a row or not.
  pub place_asked : (row : K × E) → slice_get rows i ≡ Some row → after ≡ option_map_or (λ v. put cmp row.0 v before) (ask row.0) before
      → ((q : K) → find cmp q before ≡ option_or (option_and_then (λ found. ask q) (find cmp q (take i rows))) (find cmp q first))
      → (q : K) → find cmp q after ≡ option_or (option_and_then (λ found. ask q) (find cmp q (take (i + 1) rows))) (find cmp q first)
  place_asked row is = one_asked row (slice_get_within rows i row is) (sym (get_or_from_slice_get rows i row row is))

  pub none_asked : slice_get rows i ≡ None → after ≡ before
      → ((q : K) → find cmp q before ≡ option_or (option_and_then (λ found. ask q) (find cmp q (take i rows))) (find cmp q first))
      → (q : K) → find cmp q after ≡ option_or (option_and_then (λ found. ask q) (find cmp q (take (i + 1) rows))) (find cmp q first)
  none_asked none same known q =
      ap (find cmp q) same ∙ known q ∙ ap (λ taken. given_or (ask q) (find cmp q taken) (find cmp q first)) (sym (ap (λ n. take n rows) (add-one i) ∙ take-past rows i none))
