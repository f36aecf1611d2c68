-- The rows that are left after edits by which some LSPs leave.
use Rattle.std.specs.Prelude.{◌≡◌, ◌||◌, not, Bool, true, false, cond, T, List, [], ◌∷◌, filter, map, option_to_list, Option, Some, None}
use Rattle.std.specs.FinMap.Entries.{is_sorted, put}
use Rattle.std.specs.Ordering.{is_eq}
use Rattle.std.proofs.Common.{refl, sym, ap, ◌∙◌}
use Rattle.sorted_rows.specs.EditLaws.{edited-put}
use Rattle.sorted_rows.specs.Edits as rows
use Rattle.lsr_facts.specs.OrderLaws.{key_exact, key_total}
use Rattle.lsr_facts.specs.Orders.{is_one_of, key_cmp}
use Rattle.lsr_facts.specs.declared.key.Key.{Key}
use Rattle.abstract_router.specs.States.{State, without_held}
use Rattle.state_views.specs.EditLaws.{without_more, without_none}

-- one leaves
pub without_one : {X : Type 0} (key : Key) (was : List (Key × X)) → rows.edited key_cmp ((key, None) ∷ []) was ≡ filter (λ row. not (is_one_of (key ∷ []) row.0)) was
without_one key was = sym (without_none (rows.at_key key_cmp key None was)) ∙ without_more key [] was

-- the one leaves, if there is one
pub without_pending : {X : Type 0} (key : Option Key) (was : List (Key × X)) → rows.edited key_cmp (map (λ key. (key, None)) (option_to_list key)) was ≡ filter (λ row. not (is_one_of (option_to_list key) row.0)) was
without_pending None was = sym (without_none was)
without_pending (Some key) was = without_one key was

-- rows by two tests are those by both
by_both : {A : Type 0} (p q : A → Bool) (xs : List A) → filter (λ x. not (p x)) (filter (λ x. not (q x)) xs) ≡ filter (λ x. not (p x || q x)) xs
by_both p q [] = refl
by_both p q (x ∷ xs) =
    let rest = by_both p q xs in
    let inner = filter (λ y. not (q y)) xs in
    let both = filter (λ y. not (p y || q y)) xs in
    elim (q x) as (λ b. filter (λ y. not (p y)) (cond (not b) (x ∷ inner) inner) ≡ cond (not (p x || b)) (x ∷ both) both) [
      | true ↦ elim (p x) as (λ a. filter (λ y. not (p y)) inner ≡ cond (not (a || true)) (x ∷ both) both) [ true ↦ rest | false ↦ rest ]
      | false ↦ elim (p x) as (λ a. cond (not a) (x ∷ filter (λ y. not (p y)) inner) (filter (λ y. not (p y)) inner) ≡ cond (not (a || false)) (x ∷ both) both) [
        | true ↦ rest
        | false ↦ ap (λ l. x ∷ l) rest
      ]
    ]

-- one leaves, and then another, if there is one
pub without_heads : {X : Type 0} (key : Key) (other : Option Key) (was : List (Key × X)) → T (is_sorted key_cmp was) → rows.edited key_cmp (put key_cmp key None (map (λ key. (key, None)) (option_to_list other))) was ≡ filter (λ row. not (is_one_of (key ∷ option_to_list other) row.0)) was
without_heads key other was h =
    edited-put key_cmp key_total key_exact key None (map (λ key. (key, None)) (option_to_list other)) was h
    ∙ ap (rows.at_key key_cmp key None) (without_pending other was)
    ∙ by_both (λ row. is_eq (key_cmp key row.0)) (λ row. is_one_of (option_to_list other) row.0) was

-- where no LSP loses what it has, all is as it was
pub none_leaves : (s : State) → without_held [] s ≡ s
none_leaves s = λ i. record s { resvs = without_none s.resvs i; repairs = without_none s.repairs i }
