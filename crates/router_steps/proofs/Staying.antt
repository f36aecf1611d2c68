-- The rows that stay where others go.
use Rattle.std.specs.Prelude.{◌≡◌, ◌||◌, not, Bool, true, false, cond, T, List, [], ◌∷◌, filter, is_some, Some}
use Rattle.std.specs.FinMap.Entries.{find, is_sorted}
use Rattle.std.specs.Ordering.{eq_by_cmp}
use Rattle.std.proofs.Common.{refl, ap, ◌∙◌}
use Rattle.std.proofs.lemmas.Cmp.{eq_by_cmp_equiv}
use Rattle.sorted_rows.specs.Edits.{edited}
use Rattle.sorted_rows.specs.ListLaws.{all-weaker, filter_agree_within}
use Rattle.sorted_rows.specs.Rows.{keys_of}
use Rattle.sorted_rows.specs.RowsLaws.{all_kept}
use Rattle.lsr_facts.specs.OrderLaws.{key_total}
use Rattle.lsr_facts.specs.Orders.{key_cmp}
use Rattle.lsr_facts.specs.declared.key.Key.{Key}
use Rattle.abstract_router.specs.States.{is_one_of}
use Rattle.state_views.specs.EditLaws.{rows_without}
use Rattle.state_views.specs.Edits.{without_rows}

-- a key is among those of rows where it is found
among-rows : {X : Type 0} (key : Key) (rows : List (Key × X)) → is_one_of (keys_of rows) key ≡ is_some (find key_cmp key rows)
among-rows key [] = refl
among-rows key (row ∷ rows) =
    ap (λ b. b || is_one_of (keys_of rows) key) ((eq_by_cmp_equiv key_total).symm row.0 key)
    ∙ elim (eq_by_cmp key_cmp key row.0) as (λ b. (b || is_one_of (keys_of rows) key) ≡ is_some (cond b (Some row.1) (find key_cmp key rows))) [ true ↦ refl | false ↦ among-rows key rows ]

twice : (b : Bool) → not (not b) ≡ b
twice true = refl
twice false = refl

-- without those that fail the test, those are left that pass it
without_failing : {X : Type 0} (stays : Key × X → Bool) (rows : List (Key × X)) → T (is_sorted key_cmp rows) → filter (λ row. not (is_one_of (keys_of (filter (λ row. not (stays row)) rows)) row.0)) rows ≡ filter stays rows
without_failing {X} stays rows h =
    let goes = λ (row : Key × X). not (stays row) in
    filter_agree_within (λ row. not (is_one_of (keys_of (filter goes rows)) row.0)) stays rows
    (all-weaker (λ row. is_some (find key_cmp row.0 (filter goes rows)) ≡ goes row) (λ row. not (is_one_of (keys_of (filter goes rows)) row.0) ≡ stays row)
    (λ row is. ap not (among-rows row.0 (filter goes rows) ∙ is) ∙ twice (stays row)) rows
    (all_kept key_cmp key_total goes rows h))

-- The edits by which those go that fail the test lead to those that pass it.
pub edited_staying : {X : Type 0} (stays : Key × X → Bool) (rows : List (Key × X)) → T (is_sorted key_cmp rows) → edited key_cmp (without_rows [] (keys_of (filter (λ row. not (stays row)) rows))) rows ≡ filter stays rows
edited_staying stays rows h = rows_without [] (keys_of (filter (λ row. not (stays row)) rows)) rows h ∙ without_failing stays rows h
