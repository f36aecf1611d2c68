-- Where labels can be chosen, no LSP is new, or one is and a label is free for it.
use Rattle.std.specs.Prelude.{◌≡◌, ℕ, true, false, cond, not, T, List, [], ◌∷◌, filter, Option, Some, None, is_none, is_some, ◌⊎◌}
use Rattle.std.specs.FinMap.Entries.{find, is_sorted}
use Rattle.std.specs.List.{AllByRecursion}
use Rattle.std.specs.declared.cmp.Ordering.TheVariants.{Less}
use Rattle.std.proofs.Common.{refl, sym, ap, subst, ◌∙◌, inl, inr}
use Rattle.std.proofs.lemmas.Cmp.{tied_itself}
use Rattle.sorted_rows.specs.Rows.{keys_of}
use Rattle.sorted_rows.specs.RowsLaws.{all-below, first, is_sorted-filter}
use Rattle.lsr_facts.specs.Lifetimes.{begins_here}
use Rattle.lsr_facts.specs.OrderLaws.{key_total}
use Rattle.lsr_facts.specs.Orders.{key_cmp}
use Rattle.lsr_facts.specs.declared.key.Key.{Key}
use Rattle.lsr_facts.specs.declared.path_fact.PathFact.{PathFact}
use Rattle.lsr_facts.specs.declared.router.Router.{Router}
use Rattle.abstract_router.specs.Choosing.{CanLabel, HasLabel, HasLabelOrIsNew}
use Rattle.abstract_router.specs.Labels.{has_free_label, new_keys}
use Rattle.abstract_router.specs.States.{State}

-- then no key is new
none_new : (labels : List (Key × ℕ)) (paths : List (Key × PathFact)) → AllByRecursion (HasLabel labels) paths → new_keys labels paths ≡ []
none_new labels [] has = refl
none_new labels (path ∷ paths) has =
    let rest = none_new labels paths has.1 in
    elim (not (begins_here path.1.role)) as (λ b. (b ≡ true → is_some (find key_cmp path.0 labels) ≡ true) → filter (λ key. is_none (find key_cmp key labels)) (keys_of (cond b (path ∷ filter (λ path. not (begins_here path.1.role)) paths) (filter (λ path. not (begins_here path.1.role)) paths))) ≡ []) [
      | false ↦ λ h. rest
      | true ↦ λ h. by (find key_cmp path.0 labels) (h refl) rest
    ] has.0
  where
    by : (o : Option ℕ) → is_some o ≡ true → new_keys labels paths ≡ [] → cond (is_none o) (path.0 ∷ new_keys labels paths) (new_keys labels paths) ≡ []
    by None h rest = absurd (let e = h in cc)
    by (Some v) h rest = rest

-- the rows whose keys are new
new_rows : List (Key × ℕ) → List (Key × PathFact) → List (Key × PathFact)
new_rows labels paths = filter (λ path. is_none (find key_cmp path.0 labels)) (filter (λ path. not (begins_here path.1.role)) paths)

keys-new_rows : (labels : List (Key × ℕ)) (rows : List (Key × PathFact)) → filter (λ key. is_none (find key_cmp key labels)) (keys_of rows) ≡ keys_of (filter (λ path. is_none (find key_cmp path.0 labels)) rows)
keys-new_rows labels [] = refl
keys-new_rows labels (row ∷ rows) =
    let rest = keys-new_rows labels rows in
    elim (is_none (find key_cmp row.0 labels)) as (λ b. cond b (row.0 ∷ filter (λ key. is_none (find key_cmp key labels)) (keys_of rows)) (filter (λ key. is_none (find key_cmp key labels)) (keys_of rows)) ≡ keys_of (cond b (row ∷ filter (λ path. is_none (find key_cmp path.0 labels)) rows) (filter (λ path. is_none (find key_cmp path.0 labels)) rows))) [
      | true ↦ ap (λ l. row.0 ∷ l) rest
      | false ↦ rest
    ]

-- rows in order that have one key all are at most one
at_most_one : (key : Key) (rows : List (Key × PathFact)) → T (is_sorted key_cmp rows) → AllByRecursion (λ row. row.0 ≡ key) rows → (keys_of rows ≡ []) ⊎ (keys_of rows ≡ key ∷ [])
at_most_one key [] sorted all = inl refl
at_most_one key (row ∷ []) sorted all = inr (ap (λ k. k ∷ []) all.0)
at_most_one key (row ∷ other ∷ rows) sorted all =
    let less = (all-below key_cmp row.0 (other ∷ rows) (first _ _ sorted)).0 in
    absurd (let e = subst (λ k. key_cmp row.0 k ≡ Less) (all.1.0 ∙ sym all.0) less in let t = tied_itself key_total row.0 in cc)

-- the new key, where there is one
one_new : (labels : List (Key × ℕ)) (key : Key) (paths : List (Key × PathFact)) → T (is_sorted key_cmp paths) → AllByRecursion (HasLabelOrIsNew labels key) paths → (new_keys labels paths ≡ []) ⊎ (new_keys labels paths ≡ key ∷ [])
unfolding new_rows
one_new labels key paths sorted has =
    let ours = filter (λ path. not (begins_here path.1.role)) paths in
    subst (λ ks. (ks ≡ []) ⊎ (ks ≡ key ∷ [])) (sym (keys-new_rows labels ours))
    (at_most_one key (new_rows labels paths) (is_sorted-filter key_cmp (λ path. is_none (find key_cmp path.0 labels)) ours (is_sorted-filter key_cmp (λ path. not (begins_here path.1.role)) paths sorted)) (all_new paths has))
  where
    all_new : (paths : List (Key × PathFact)) → AllByRecursion (HasLabelOrIsNew labels key) paths → AllByRecursion (λ row. row.0 ≡ key) (filter (λ path. is_none (find key_cmp path.0 labels)) (filter (λ path. not (begins_here path.1.role)) paths))
    all_new [] has = tt
    all_new (path ∷ paths) has =
        let rest = all_new paths has.1 in
        elim (not (begins_here path.1.role)) as (λ b. not (begins_here path.1.role) ≡ b → AllByRecursion (λ row. row.0 ≡ key) (filter (λ path. is_none (find key_cmp path.0 labels)) (cond b (path ∷ filter (λ path. not (begins_here path.1.role)) paths) (filter (λ path. not (begins_here path.1.role)) paths)))) [
          | false ↦ λ e. rest
          | true ↦ λ ours. elim (is_none (find key_cmp path.0 labels)) as (λ b. is_none (find key_cmp path.0 labels) ≡ b → AllByRecursion (λ row. row.0 ≡ key) (cond b (path ∷ filter (λ path. is_none (find key_cmp path.0 labels)) (filter (λ path. not (begins_here path.1.role)) paths)) (filter (λ path. is_none (find key_cmp path.0 labels)) (filter (λ path. not (begins_here path.1.role)) paths)))) [
            | false ↦ λ e. rest
            | true ↦ λ new. (is_key has.0 ours (find key_cmp path.0 labels) refl new, rest)
          ] refl
        ] refl
      where
        is_key : HasLabelOrIsNew labels key path → not (begins_here path.1.role) ≡ true → (o : Option ℕ) → find key_cmp path.0 labels ≡ o → is_none o ≡ true → path.0 ≡ key
        is_key (inl same) ours o is new = same
        is_key (inr has) ours None is new = absurd (let e = ap is_some is in let h = has ours in cc)
        is_key (inr has) ours (Some v) is new = absurd (let e = new in cc)

-- Where labels can be chosen, at most one key is new, and a label is free for it.
pub new_keys-few : (r : Router) (before : State) (paths : List (Key × PathFact)) → T (is_sorted key_cmp paths) → CanLabel r before paths
    → (new_keys before.labels paths ≡ []) ⊎ ((key : Key) × (new_keys before.labels paths ≡ key ∷ []) × (has_free_label r before.labels before.resting ≡ true))
new_keys-few r before paths sorted (inl has) = inl (none_new before.labels paths has)
new_keys-few r before paths sorted (inr new) = by (one_new before.labels new.0 paths sorted new.1)
  where
    by : ((new_keys before.labels paths ≡ []) ⊎ (new_keys before.labels paths ≡ new.0 ∷ [])) → (new_keys before.labels paths ≡ []) ⊎ ((key : Key) × (new_keys before.labels paths ≡ key ∷ []) × (has_free_label r before.labels before.resting ≡ true))
    by (inl none) = inl none
    by (inr one) = inr (new.0, one, new.2)
