-- What is found among rows that were put one after the other, and among the moments that are.
use Rattle.std.specs.Prelude.{◌≡◌, ℕ, true, false, cond, T, List, [], ◌∷◌, Option, Some, None}
use Rattle.std.specs.Cmp.{IsTotalOrder}
use Rattle.std.specs.FinMap.Entries.{find, find-put, is_sorted, put}
use Rattle.std.specs.Option.{option_or}
use Rattle.std.specs.Ordering.{eq_by_cmp}
use Rattle.std.specs.declared.cmp.Ordering.{Ordering}
use Rattle.std.proofs.Common.{refl, sym, ap, ◌∙◌}
use Rattle.sorted_rows.specs.RowsLaws.{find-append, find-behind, second, ties}
use Rattle.abstract_paths.specs.declared.events.Output.{Output}
use Rattle.abstract_paths.specs.Outputs.{between}
use Rattle.abstract_paths.specs.Touched.{forgotten, moments_between, renewed_moment}
use Rattle.abstract_paths.specs.TouchedLaws.{is_sorted-forgotten, is_sorted-renewed_moment}
use Rattle.state_sends.specs.Placing.{placed}

or_none : {A : Type 0} (o : Option A) → option_or o None ≡ o
or_none None = refl
or_none (Some x) = refl

module _ {K X : Type 0} (cmp : K → K → Ordering) (total : IsTotalOrder cmp) where
  -- rows in order that are put are found, and then what was there
  find-placed : (q : K) (table rows : List (K × X)) → T (is_sorted cmp rows) → find cmp q (placed cmp table rows) ≡ option_or (find cmp q rows) (find cmp q table)
  find-placed q table [] h = refl
  find-placed q table (row ∷ rows) h =
      find-placed q (put cmp row.0 row.1 table) rows (second _ _ h)
      ∙ ap (option_or (find cmp q rows)) (find-put cmp total q row.0 row.1 table)
      ∙ elim (eq_by_cmp cmp q row.0) as (λ b. eq_by_cmp cmp q row.0 ≡ b → option_or (find cmp q rows) (cond b (Some row.1) (find cmp q table)) ≡ option_or (cond b (Some row.1) (find cmp q rows)) (find cmp q table)) [
        | true ↦ λ t. ap (λ o. option_or o (Some row.1)) (find-behind cmp total q row rows h (ties _ t))
        | false ↦ λ t. refl
      ] refl

-- Moments that go, and then those that are renewed, are found as the moments become.
pub find-become : {I : Type 0} (cmp : I → I → Ordering) → IsTotalOrder cmp → (due : List I) (moment : ℕ) (was is : List (I × Output)) → T (is_sorted cmp was) → T (is_sorted cmp is) → (item : I) → find cmp item (placed cmp (placed cmp [] (between cmp forgotten was is)) (between cmp (renewed_moment cmp due moment) is was)) ≡ find cmp item (moments_between cmp due moment was is)
find-become cmp total due moment was is g h item =
    let goes = between cmp forgotten was is in
    let goes_out = between cmp (renewed_moment cmp due moment) is was in
    find-placed cmp total item (placed cmp [] goes) goes_out (is_sorted-renewed_moment cmp due moment was is h)
    ∙ ap (option_or (find cmp item goes_out)) (find-placed cmp total item [] goes (is_sorted-forgotten cmp was is g) ∙ or_none (find cmp item goes))
    ∙ sym (find-append cmp item goes_out goes)
