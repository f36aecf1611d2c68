-- Rows without those of some LSPs, taken away one by one.
use Rattle.std.specs.Prelude.{◌≡◌, ◌||◌, ◌++◌, not, true, false, cond, fold, T, List, [], ◌∷◌, filter, Option, None}
use Rattle.std.specs.FinMap.Entries.{is_sorted, put, where_key}
use Rattle.std.specs.Ordering.{is_eq}
use Rattle.std.proofs.Common.{refl, sym, ap, ◌∙◌}
use Rattle.sorted_rows.specs.EditLaws.{edited-put}
use Rattle.sorted_rows.specs.Edits.{edited}
use Rattle.lsr_facts.specs.OrderLaws.{key_exact, key_total}
use Rattle.lsr_facts.specs.Orders.{key_cmp}
use Rattle.lsr_facts.specs.declared.key.Key.{Key}
use Rattle.lsr_facts.specs.Admission.{without}
use Rattle.lsr_facts.specs.declared.claim.Claim.{Claim}
use Rattle.lsr_facts.specs.declared.resv_fact.ResvFact.{ResvFact}
use Rattle.abstract_router.specs.States.{is_one_of}
use Rattle.resv_arrivals.specs.Progresses.{without_edits, without_row}

-- all are kept
kept_all : {X : Type 0} (rows : List (Key × X)) → filter (λ row. not (is_one_of [] row.0)) rows ≡ rows
kept_all [] = refl
kept_all (row ∷ rows) = ap (λ l. row ∷ l) (kept_all rows)

-- those without one LSP's, without those of some, are those without all of these
one_more : {X : Type 0} (key : Key) (gone : List Key) (rows : List (Key × X)) → filter (λ row. not (is_one_of gone row.0)) (where_key key_cmp (λ other. not (is_eq (key_cmp key other))) rows) ≡ filter (λ row. not (is_one_of (key ∷ gone) row.0)) rows
one_more key gone [] = refl
one_more {X} key gone (row ∷ rows) =
    let left = where_key key_cmp (λ other. not (is_eq (key_cmp key other))) rows in
    let more = filter (λ (row : Key × X). not (is_one_of (key ∷ gone) row.0)) rows in
    let rest = one_more key gone rows in
    elim (is_eq (key_cmp key row.0)) as (λ b. filter (λ row. not (is_one_of gone row.0)) (cond (not b) (row ∷ left) left) ≡ cond (not (b || is_one_of gone row.0)) (row ∷ more) more) [
      | true ↦ rest
      | false ↦ ap (λ l. cond (not (is_one_of gone row.0)) (row ∷ l) l) rest
    ]

-- Claims without those of some LSPs.
pub rows_without : (gone : List Key) (claims : List (Key × Claim)) → fold without_row claims gone ≡ without gone claims
unfolding without_row
rows_without [] claims = sym (kept_all claims)
rows_without (key ∷ gone) claims = rows_without gone (without_row claims key) ∙ one_more key gone claims

-- and those without those of some, without one LSP's
one_less : {X : Type 0} (key : Key) (gone : List Key) (rows : List (Key × X)) → where_key key_cmp (λ other. not (is_eq (key_cmp key other))) (filter (λ row. not (is_one_of gone row.0)) rows) ≡ filter (λ row. not (is_one_of (key ∷ gone) row.0)) rows
one_less key gone [] = refl
one_less {X} key gone (row ∷ rows) =
    let left = filter (λ (row : Key × X). not (is_one_of gone row.0)) rows in
    let rest = one_less key gone rows in
    let kept = λ (rows : List (Key × X)). where_key key_cmp (λ other. not (is_eq (key_cmp key other))) rows in
    elim (is_one_of gone row.0) as (λ b. kept (cond (not b) (row ∷ left) left) ≡ cond (not (is_eq (key_cmp key row.0) || b)) (row ∷ filter (λ row. not (is_one_of (key ∷ gone) row.0)) rows) (filter (λ row. not (is_one_of (key ∷ gone) row.0)) rows)) [
      | true ↦ elim (is_eq (key_cmp key row.0)) as (λ b. kept left ≡ cond (not (b || true)) (row ∷ filter (λ row. not (is_one_of (key ∷ gone) row.0)) rows) (filter (λ row. not (is_one_of (key ∷ gone) row.0)) rows)) [ true ↦ rest | false ↦ rest ]
      | false ↦ elim (is_eq (key_cmp key row.0)) as (λ b. cond (not b) (row ∷ kept left) (kept left) ≡ cond (not (b || false)) (row ∷ filter (λ row. not (is_one_of (key ∷ gone) row.0)) rows) (filter (λ row. not (is_one_of (key ∷ gone) row.0)) rows)) [ true ↦ rest | false ↦ ap (λ l. row ∷ l) rest ]
    ]

-- The last of what is taken away is taken first.
pub without_last : (edits : List (Key × Option ResvFact)) (gone : List Key) (key : Key) → without_edits edits (gone ++ key ∷ []) ≡ without_edits (put key_cmp key None edits) gone
without_last edits [] key = refl
without_last edits (first ∷ gone) key = ap (put key_cmp first None) (without_last edits gone key)

-- Reservations after the edits by which some LSPs lose theirs.
pub edited_without : (gone : List Key) (edits : List (Key × Option ResvFact)) (resvs : List (Key × ResvFact)) → T (is_sorted key_cmp resvs) → edited key_cmp (without_edits edits gone) resvs ≡ filter (λ resv. not (is_one_of gone resv.0)) (edited key_cmp edits resvs)
edited_without [] edits resvs h = sym (kept_all (edited key_cmp edits resvs))
edited_without (key ∷ gone) edits resvs h =
    edited-put key_cmp key_total key_exact key None (without_edits edits gone) resvs h
    ∙ ap (where_key key_cmp (λ other. not (is_eq (key_cmp key other)))) (edited_without gone edits resvs h)
    ∙ one_less key gone (edited key_cmp edits resvs)
