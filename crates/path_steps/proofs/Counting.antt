-- How many paths are known after edits.
use Rattle.std.specs.Prelude.{◌≡◌, ◌+◌, true, cond, T, List, [], ◌∷◌, length, Option, Some, None, is_none, is_some}
use Rattle.std.specs.Cmp.{IsTotalOrder}
use Rattle.std.specs.FinMap.Entries.{below_all, find, is_sorted, length-put, length_without, put}
use Rattle.std.specs.List.{AllByRecursion, count_by}
use Rattle.std.specs.declared.cmp.Ordering.{Ordering}
use Rattle.std.proofs.Common.{arith, ap, sym, ◌∙◌}
use Rattle.std.proofs.lemmas.Cmp.{tied_itself}
use Rattle.std.proofs.lemmas.List.Sums.{sum_by-cons}
use Rattle.sorted_rows.specs.EditLaws.{find-edited, is_sorted-edited}
use Rattle.sorted_rows.specs.Edits.{at_key, edited, over}
use Rattle.sorted_rows.specs.RowsLaws.{find-behind}
use Rattle.abstract_paths.specs.RowLaws.{second}

module _ {K X : Type 0} (cmp : K → K → Ordering) (total : IsTotalOrder cmp) where
  -- one edit of a known key takes a row away, or none
  length-at_known : (key : K) (now : Option X) (rows : List (K × X)) → T (is_sorted cmp rows) → is_some (find cmp key rows) ≡ true → length (at_key cmp key now rows) + cond (is_none now) 1 0 ≡ length rows
  length-at_known key None rows h known =
      let less : 1 + length (at_key cmp key None rows) ≡ length rows = ap (λ b. cond b 1 0 + length (at_key cmp key None rows)) (sym known) ∙ length_without cmp total key rows h in
      omega (arith, less)
  length-at_known key (Some value) rows h known =
      let same : length (put cmp key value rows) ≡ length rows = length-put cmp total key value rows h ∙ ap (λ b. cond b (length rows) (length rows + 1)) known in
      omega (arith, same)

  -- Edits of known keys take so many rows away as they are without a value.
  pub length-known : (es : List (K × Option X)) (rows : List (K × X)) → T (is_sorted cmp es) → T (is_sorted cmp rows) → AllByRecursion (λ e. is_some (find cmp e.0 rows) ≡ true) es → length (edited cmp es rows) + count_by (λ e. is_none e.1) es ≡ length rows
  length-known [] rows g h known = omega arith
  length-known (e ∷ es) rows g h known =
      let found : is_some (find cmp e.0 (edited cmp es rows)) ≡ true =
      ap is_some (find-edited cmp total e.0 es rows ∙ ap (λ o. over o (find cmp e.0 rows)) (find-behind cmp total e.0 e es g (tied_itself total e.0))) ∙ known.0 in
      let one = length-at_known e.0 e.1 (edited cmp es rows) (is_sorted-edited cmp total es rows h) found in
      let rest = length-known es rows (second (below_all cmp e.0 es) (is_sorted cmp es) g) h known.1 in
      let more = sum_by-cons (λ (e : K × Option X). cond (is_none e.1) 1 0) e es in
      omega (arith, one, rest, more)
