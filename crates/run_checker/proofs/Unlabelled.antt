-- Labels of the LSPs that others are of may be chosen as those may.
use Rattle.std.specs.Prelude.{◌≡◌, ◌⊎◌, ◌≤◌, ℕ, true, T, List, [], ◌∷◌, length, nat_eq}
use Rattle.std.specs.FinMap.Entries.{is_sorted}
use Rattle.std.specs.List.{IsDistinct}
use Rattle.std.proofs.Common.{ap, sym, ◌∙◌, arith, inl, inr}
use Rattle.std.proofs.lemmas.List.{length-map}
use Rattle.sorted_rows.specs.Rows.{values_of}
use Rattle.lsr_facts.specs.Orders.{key_cmp}
use Rattle.lsr_facts.specs.declared.key.Key.{Key}
use Rattle.lsr_facts.specs.declared.path_fact.PathFact.{PathFact}
use Rattle.lsr_facts.specs.declared.router.Router.{Router}
use Rattle.abstract_router.specs.Choosing.{CanLabel}
use Rattle.abstract_router.specs.ChoosingLaws.{new_keys-few}
use Rattle.abstract_router.specs.Labels.{IsLabelling, has_free_label, new_keys}
use Rattle.abstract_router.specs.States.{State}
use Rattle.run_checker.specs.Labelling.{IsChoiceLike}

-- at most one label is no label twice
one_distinct : (labels : List (Key × ℕ)) → length labels ≤ 1 → IsDistinct nat_eq (values_of labels)
unfolding IsDistinct
one_distinct [] few = tt
one_distinct (row ∷ []) few = (tt, tt)
one_distinct (row ∷ other ∷ more) few = absurd (omega (arith, few))

module _ (r : Router) (s : State) (paths : List (Key × PathFact)) (others : List (Key × ℕ)) (may : IsLabelling r s paths others) where
  -- one label at most is chosen
  pub few_chosen : T (is_sorted key_cmp paths) → CanLabel r s paths → length others ≤ 1
  few_chosen sorted can = by (new_keys-few r s paths sorted can)
    where
      as_many : length others ≡ length (new_keys s.labels paths)
      as_many = sym (length-map others (λ (row : Key × ℕ). row.0)) ∙ ap length may.of_new

      by : ((new_keys s.labels paths ≡ []) ⊎ ((key : Key) × (new_keys s.labels paths ≡ key ∷ []) × (has_free_label r s.labels s.resting ≡ true))) → length others ≤ 1
      by (inl none) = let n = as_many ∙ ap length none in omega (arith, n)
      by (inr one) = let n = as_many ∙ ap length one.1 in omega (arith, n)

  -- labels that are like them may be chosen, and no others
  pub like_may : length others ≤ 1 → (labels : List (Key × ℕ)) → IsChoiceLike r s others labels → IsLabelling r s paths labels
  like_may few labels like = record {
    of_new = like.same ∙ may.of_new;
    given = like.given;
    apart = one_distinct labels (let n = sym (length-map labels (λ (row : Key × ℕ). row.0)) ∙ ap length like.same ∙ length-map others (λ (row : Key × ℕ). row.0) in omega (arith, n, few));
  }

  pub may_like : (labels : List (Key × ℕ)) → IsLabelling r s paths labels → IsChoiceLike r s others labels
  may_like labels is = record { same = is.of_new ∙ sym may.of_new; given = is.given }
