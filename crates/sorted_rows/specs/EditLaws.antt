-- What is found after edits, and what one more edit makes of them.
use Rattle.std.specs.Prelude.{◌≡◌, Bool, true, false, cond, not, T, List, [], ◌∷◌, Option, Some, None}
use Rattle.std.specs.Cmp.{IsTotalOrder}
use Rattle.std.specs.FinMap.Entries.{put, find, is_sorted, find-put, is_sorted-put, is_sorted-where_key, same_entries}
use Rattle.std.specs.Ordering.{is_eq, eq_by_cmp, ordering_reverse}
use Rattle.std.specs.declared.cmp.Ordering.{Ordering}
use Rattle.std.specs.declared.cmp.Ordering.TheVariants.{Less, Equal, Greater}
use Rattle.std.proofs.Common.{refl, sym, ap, ◌∙◌}
use Rattle.sorted_rows.specs.RowsLaws.{find-removed}
use Rattle.sorted_rows.specs.Edits.{over, at_key, edited}

-- a tie is one the other way round, too
tie_turned : (o : Ordering) → is_eq (ordering_reverse o) ≡ is_eq o
tie_turned Less = refl
tie_turned Equal = refl
tie_turned Greater = refl

-- to choose by a test, or by its contrary
contrary : {A : Type 0} (b : Bool) (x y : A) → cond (not b) x y ≡ cond b y x
contrary true x y = refl
contrary false x y = refl

-- what was edited first counts
over_first : {X : Type 0} (b : Bool) (now : Option X) (later : Option (Option X)) (was : Option X) → cond b now (over later was) ≡ over (cond b (Some now) later) was
over_first true now later was = refl
over_first false now later was = refl

module _ {K X : Type 0} (cmp : K → K → Ordering) (total : IsTotalOrder cmp) where
  -- what is found after one edit
  pub find-at_key : (q key : K) (now : Option X) (rows : List (K × X)) → find cmp q (at_key cmp key now rows) ≡ cond (eq_by_cmp cmp q key) now (find cmp q rows)
  find-at_key q key None rows =
      find-removed cmp total q key rows
      ∙ ap (λ b. cond (not b) (find cmp q rows) None) (ap is_eq (total.antisymm key q) ∙ tie_turned (cmp q key))
      ∙ contrary (is_eq (cmp q key)) (find cmp q rows) None
  find-at_key q key (Some value) rows = find-put cmp total q key value rows

  -- A look-up in edited rows is one in the edits, and then one in the rows.
  pub find-edited : (q : K) (es : List (K × Option X)) (rows : List (K × X)) → find cmp q (edited cmp es rows) ≡ over (find cmp q es) (find cmp q rows)
  find-edited q [] rows = refl
  find-edited q (e ∷ es) rows =
      find-at_key q e.0 e.1 (edited cmp es rows)
      ∙ ap (cond (eq_by_cmp cmp q e.0) e.1) (find-edited q es rows)
      ∙ over_first (eq_by_cmp cmp q e.0) e.1 (find cmp q es) (find cmp q rows)

  -- one edit keeps the order
  pub is_sorted-at_key : (key : K) (now : Option X) (rows : List (K × X)) → T (is_sorted cmp rows) → T (is_sorted cmp (at_key cmp key now rows))
  is_sorted-at_key key None rows h = is_sorted-where_key cmp (λ q. not (is_eq (cmp key q))) rows h
  is_sorted-at_key key (Some value) rows h = is_sorted-put cmp total key value rows h

  -- and so do all
  pub is_sorted-edited : (es : List (K × Option X)) (rows : List (K × X)) → T (is_sorted cmp rows) → T (is_sorted cmp (edited cmp es rows))
  is_sorted-edited [] rows h = h
  is_sorted-edited (e ∷ es) rows h = is_sorted-at_key e.0 e.1 (edited cmp es rows) (is_sorted-edited es rows h)

  -- An edit that is set among edits is made after them.
  pub edited-put : ((x y : K) → cmp x y ≡ Equal → x ≡ y) → (key : K) (now : Option X) (es : List (K × Option X)) (rows : List (K × X)) → T (is_sorted cmp rows) → edited cmp (put cmp key now es) rows ≡ at_key cmp key now (edited cmp es rows)
  edited-put exact key now es rows h =
      same_entries cmp total exact (edited cmp (put cmp key now es) rows) (at_key cmp key now (edited cmp es rows)) (is_sorted-edited (put cmp key now es) rows h) (is_sorted-at_key key now (edited cmp es rows) (is_sorted-edited es rows h)) (λ q.
      find-edited q (put cmp key now es) rows
      ∙ ap (λ o. over o (find cmp q rows)) (find-put cmp total q key now es)
      ∙ sym (find-at_key q key now (edited cmp es rows) ∙ ap (cond (eq_by_cmp cmp q key) now) (find-edited q es rows) ∙ over_first (eq_by_cmp cmp q key) now (find cmp q es) (find cmp q rows)))
