-- What is found among rows that are put in turn, one LSP after the other.
use Rattle.std.proofs.Common.{◌≡◌, ℕ, T, Bool, true, false, cond, List, [], ◌∷◌, Option, Some, None, IfSome, is_some, refl, sym, ap, ◌∙◌}
use Rattle.std.specs.FinMap.Entries.{find, find-put, is_sorted, is_sorted-put}
use Rattle.std.specs.List.{AllByRecursion}
use Rattle.std.specs.Ordering.{eq_by_cmp, is_eq, nat_cmp}
use Rattle.std.proofs.lemmas.Cmp.{nat_cmp_total, tied_itself}
use Rattle.std.proofs.lemmas.Map.Lookups.{exact_unsigned}
use Rattle.sorted_rows.specs.RowsLaws.{all-put, find-put_same, ties}
use Rattle.lsr_facts.specs.OrderLaws.{key_exact, key_total}
use Rattle.lsr_facts.specs.Orders.{key_cmp}
use Rattle.lsr_facts.specs.declared.key.Key.{Key}
use Rattle.abstract_paths.specs.Touched.{is_among}
use Rattle.label_table.specs.Turns.{put_each, put_row}

module _ {X : Type 0} where
  -- one row of another label changes nothing of this one
  put_apart : (label : ℕ) (o : Option (ℕ × X)) (rows : List (ℕ × X)) → ((now : X) → o ≡ Some (label, now) → ⊥) → find nat_cmp label (put_row nat_cmp o rows) ≡ find nat_cmp label rows
  put_apart label None rows other = refl
  put_apart label (Some row) rows other = find-put nat_cmp nat_cmp_total label row.0 row.1 rows ∙ by (eq_by_cmp nat_cmp label row.0) refl
    where
      by : (b : Bool) → eq_by_cmp nat_cmp label row.0 ≡ b → cond b (Some row.1) (find nat_cmp label rows) ≡ find nat_cmp label rows
      by true tie = let same = sym (exact_unsigned label row.0 (ties _ tie)) in absurd (other row.1 (λ i. Some (same i, row.1)))
      by false apart = refl

  -- and one of this label that says the same as before changes nothing either
  put_alike : (label : ℕ) (now : X) (o : Option (ℕ × X)) (rows : List (ℕ × X)) → ((other : X) → o ≡ Some (label, other) → other ≡ now) → find nat_cmp label rows ≡ Some now → find nat_cmp label (put_row nat_cmp o rows) ≡ Some now
  put_alike label now None rows alike before = before
  put_alike label now (Some row) rows alike before = find-put nat_cmp nat_cmp_total label row.0 row.1 rows ∙ by (eq_by_cmp nat_cmp label row.0) refl
    where
      by : (b : Bool) → eq_by_cmp nat_cmp label row.0 ≡ b → cond b (Some row.1) (find nat_cmp label rows) ≡ Some now
      by true tie = let same = sym (exact_unsigned label row.0 (ties _ tie)) in ap Some (alike row.1 (λ i. Some (same i, row.1)))
      by false apart = before

  module _ (f : Key → Option (ℕ × X)) (label : ℕ) where
    -- whichever LSP has a row of the label, that row says this
    abbrev pub SaysOnly : X → Type 0
    SaysOnly now = (key : Key) (other : X) → f key ≡ Some (label, other) → other ≡ now

    -- what is found stays, where all rows of the label say it
    each_alike : {E : Type 0} (now : X) → SaysOnly now → (touched : List (Key × E)) (rows : List (ℕ × X)) → find nat_cmp label rows ≡ Some now → find nat_cmp label (put_each f touched rows) ≡ Some now
    each_alike now only [] rows before = before
    each_alike now only (lsp ∷ touched) rows before =
        each_alike now only touched (put_row nat_cmp (f lsp.0) rows) (put_alike label now (f lsp.0) rows (only lsp.0) before)

    -- The row of an LSP is found, where no other one says anything else of its label.
    pub each_said : {E : Type 0} (now : X) → SaysOnly now → (key : Key) → f key ≡ Some (label, now) → (touched : List (Key × E)) (rows : List (ℕ × X)) → is_among key_cmp touched key ≡ true → find nat_cmp label (put_each f touched rows) ≡ Some now
    each_said now only key said [] rows = λ among. absurd (let e = among in cc)
    each_said now only key said (lsp ∷ touched) rows =
        elim (eq_by_cmp key_cmp key lsp.0) as (λ b. eq_by_cmp key_cmp key lsp.0 ≡ b → is_some (cond b (Some lsp.1) (find key_cmp key touched)) ≡ true → find nat_cmp label (put_each f touched (put_row nat_cmp (f lsp.0) rows)) ≡ Some now) [
          | true ↦ λ tie among. each_alike now only touched (put_row nat_cmp (f lsp.0) rows) (
              ap (λ o. find nat_cmp label (put_row nat_cmp o rows)) (ap f (sym (key_exact key lsp.0 (ties _ tie))) ∙ said) ∙ find-put_same nat_cmp nat_cmp_total label now rows)
          | false ↦ λ apart among. each_said now only key said touched (put_row nat_cmp (f lsp.0) rows) among
        ] refl

    -- A label that none of the LSPs has a row of stays as it was.
    pub each_apart : {E : Type 0} (touched : List (Key × E)) (rows : List (ℕ × X)) → ((key : Key) → is_among key_cmp touched key ≡ true → (now : X) → f key ≡ Some (label, now) → ⊥) → find nat_cmp label (put_each f touched rows) ≡ find nat_cmp label rows
    each_apart [] rows other = refl
    each_apart (lsp ∷ touched) rows other =
        each_apart touched (put_row nat_cmp (f lsp.0) rows) (λ key among. other key (later (eq_by_cmp key_cmp key lsp.0) lsp.1 (find key_cmp key touched) among))
        ∙ put_apart label (f lsp.0) rows (other lsp.0 (ap (λ r. is_some (cond (is_eq r) (Some lsp.1) (find key_cmp lsp.0 touched))) (tied_itself key_total lsp.0)))
      where
        later : {A : Type 0} (b : Bool) (x : A) (o : Option A) → is_some o ≡ true → is_some (cond b (Some x) o) ≡ true
        later true x o among = refl
        later false x o among = among

  -- what holds of what stands in each row
  put_holds : (P : X → Type 0) (o : Option (ℕ × X)) (rows : List (ℕ × X)) → IfSome o (λ row. P row.1) → AllByRecursion (λ (row : ℕ × X). P row.1) rows → AllByRecursion (λ (row : ℕ × X). P row.1) (put_row nat_cmp o rows)
  put_holds P None rows holds all = all
  put_holds P (Some row) rows holds all = all-put nat_cmp P row.0 row.1 holds rows all

  put_sorted : (o : Option (ℕ × X)) (rows : List (ℕ × X)) → T (is_sorted nat_cmp rows) → T (is_sorted nat_cmp (put_row nat_cmp o rows))
  put_sorted None rows h = h
  put_sorted (Some row) rows h = is_sorted-put nat_cmp nat_cmp_total row.0 row.1 rows h

  module _ {K E : Type 0} (f : K → Option (ℕ × X)) where
    -- What is so of what each puts is so of all that is there.
    pub each_holds : (P : X → Type 0) → ((key : K) → IfSome (f key) (λ row. P row.1)) → (touched : List (K × E)) (rows : List (ℕ × X)) → AllByRecursion (λ (row : ℕ × X). P row.1) rows → AllByRecursion (λ (row : ℕ × X). P row.1) (put_each f touched rows)
    each_holds P holds [] rows all = all
    each_holds P holds (lsp ∷ touched) rows all = each_holds P holds touched (put_row nat_cmp (f lsp.0) rows) (put_holds P (f lsp.0) rows (holds lsp.0) all)

    -- Rows stay in the order of their labels.
    pub each_sorted : (touched : List (K × E)) (rows : List (ℕ × X)) → T (is_sorted nat_cmp rows) → T (is_sorted nat_cmp (put_each f touched rows))
    each_sorted [] rows h = h
    each_sorted (lsp ∷ touched) rows h = each_sorted touched (put_row nat_cmp (f lsp.0) rows) (put_sorted (f lsp.0) rows h)
