-- What is found among rows that are put in turn, where each has a number and says what becomes of that.
use Rattle.std.proofs.Common.{◌≡◌, ℕ, Bool, true, false, cond, List, [], ◌∷◌, Option, Some, None, refl, sym, ap, ◌∙◌}
use Rattle.std.specs.Prelude.{◌||◌}
use Rattle.std.specs.FinMap.Entries.{find, find-put}
use Rattle.std.specs.List.{list_any}
use Rattle.std.specs.Option.{option_map, option_or}
use Rattle.std.specs.Ordering.{eq_by_cmp, nat_cmp}
use Rattle.std.proofs.lemmas.Cmp.{nat_cmp_total}
use Rattle.std.proofs.lemmas.Map.Lookups.{exact_unsigned}
use Rattle.sorted_rows.specs.RowsLaws.{ties}
use Rattle.label_table.specs.Turns.{put_each, put_row}

-- what is said twice is said once
twice : {X : Type 0} (b among : Bool) (o before : Option X) → option_or (cond among o None) (option_or (cond b o None) before) ≡ option_or (cond (b || among) o None) before
twice true true None before = refl
twice true true (Some x) before = refl
twice true false o before = refl
twice false among o before = refl

module _ {K X : Type 0} (of : K → ℕ) (becomes : ℕ → Option X) (number : ℕ) where
  -- one of these has the number
  abbrev pub is_asked : {E : Type 0} → List (K × E) → Bool
  is_asked rows = list_any (λ row. eq_by_cmp nat_cmp number (of row.0)) rows

  -- what is put for one
  abbrev pub asked : K → Option (ℕ × X)
  asked key = option_map (λ x. (of key, x)) (becomes (of key))

  one_asked : (n : ℕ) (rows : List (ℕ × X)) → find nat_cmp number (put_row nat_cmp (option_map (λ x. (n, x)) (becomes n)) rows) ≡ option_or (cond (eq_by_cmp nat_cmp number n) (becomes number) None) (find nat_cmp number rows)
  one_asked n rows = by (eq_by_cmp nat_cmp number n) refl (becomes n) refl
    where
      same : eq_by_cmp nat_cmp number n ≡ true → becomes number ≡ becomes n
      same tie = ap becomes (exact_unsigned number n (ties _ tie))

      by : (b : Bool) → eq_by_cmp nat_cmp number n ≡ b → (o : Option X) → becomes n ≡ o
          → find nat_cmp number (put_row nat_cmp (option_map {U = ℕ × X} (λ x. (n, x)) o) rows) ≡ option_or (cond b (becomes number) None) (find nat_cmp number rows)
      by true tie None is = ap (λ o. option_or o (find nat_cmp number rows)) (sym (same tie ∙ is))
      by true tie (Some x) is =
          find-put nat_cmp nat_cmp_total number n x rows ∙ ap (λ b. cond b (Some x) (find nat_cmp number rows)) tie
          ∙ ap (λ o. option_or o (find nat_cmp number rows)) (sym (same tie ∙ is))
      by false apart None is = refl
      by false apart (Some x) is = find-put nat_cmp nat_cmp_total number n x rows ∙ ap (λ b. cond b (Some x) (find nat_cmp number rows)) apart

  -- What becomes of a number that one of them has is found then.
  pub each_asked : {E : Type 0} (touched : List (K × E)) (rows : List (ℕ × X)) → find nat_cmp number (put_each asked touched rows) ≡ option_or (cond (is_asked touched) (becomes number) None) (find nat_cmp number rows)
  each_asked [] rows = refl
  each_asked (row ∷ touched) rows =
      each_asked touched (put_row nat_cmp (asked row.0) rows)
      ∙ ap (option_or (cond (is_asked touched) (becomes number) None)) (one_asked (of row.0) rows)
      ∙ twice (eq_by_cmp nat_cmp number (of row.0)) (is_asked touched) (becomes number) (find nat_cmp number rows)
