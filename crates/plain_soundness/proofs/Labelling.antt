-- Labels, each another one, and those that rest.
use Rattle.std.specs.Prelude.{◌≡◌, ◌↔◌, ◌==◌, ◌||◌, ℕ, Bool, true, false, T, List, [], ◌∷◌, nat_eq, Option, Some, None, IfSome}
use Rattle.std.specs.FinMap.Entries.{find, is_sorted}
use Rattle.std.specs.List.{AllByRecursion, IsDistinct}
use Rattle.std.specs.Ordering.{is_eq, nat_cmp}
use Rattle.std.specs.declared.cmp.Ordering.TheVariants.{Less}
use Rattle.std.proofs.Common.{refl, sym, ap, eq-eqb, ◌∙◌}
use Rattle.std.proofs.lemmas.Bool.{eqb-true}
use Rattle.std.proofs.lemmas.Cmp.{nat_cmp_total, tied_itself}
use Rattle.std.proofs.lemmas.Map.Lookups.{exact_unsigned}
use Rattle.sorted_rows.specs.ListLaws.{all-both, all-from_map, all-map, all-weaker}
use Rattle.sorted_rows.specs.Rows.{values_of}
use Rattle.sorted_rows.specs.RowsLaws.{all-below, all-from_find, find-all_row, first, second}
use Rattle.lsr_facts.specs.OrderLaws.{key_total}
use Rattle.lsr_facts.specs.Orders.{key_cmp}
use Rattle.lsr_facts.specs.declared.key.Key.{Key}
use Rattle.label_space.specs.FreeLabels.{is_held}
use Rattle.label_space.specs.Rests.{AreApart}
use Rattle.plain_soundness.specs.Labelled.{AreOthers}

-- numbers that differ, by the test
apart_of : (n m : ℕ) → (n ≡ m → ⊥) → (b : Bool) → nat_eq n m ≡ b → b ≡ false
apart_of n m differ true is = absurd (differ (eqb-true n m is))
apart_of n m differ false is = refl

-- a key below another is no tie
no_tie : (a b : Key) → key_cmp a b ≡ Less → is_eq (key_cmp a b) ≡ true → ⊥
no_tie a b below tie = let e = sym (ap is_eq below) ∙ tie in cc

-- labels of others, two by two
pairs_distinct : (labels : List (Key × ℕ)) → T (is_sorted key_cmp labels) → AllByRecursion (λ row. AllByRecursion (AreOthers row) labels) labels → IsDistinct nat_eq (values_of labels)
unfolding IsDistinct
pairs_distinct [] sorted all = tt
pairs_distinct (row ∷ after) sorted all = (
  all-map (λ label. nat_eq row.1 label ≡ false) (λ (other : Key × ℕ). other.1) after
      (all-both (λ (other : Key × ℕ). key_cmp row.0 other.0 ≡ Less) (AreOthers row) (λ (other : Key × ℕ). nat_eq row.1 other.1 ≡ false)
      (λ other below others. apart_of row.1 other.1 (λ same. no_tie row.0 other.0 below (others same)) (nat_eq row.1 other.1) refl) after (all-below key_cmp row.0 after (first _ _ sorted)) all.0.1),
  pairs_distinct after (second _ _ sorted) (all-weaker (λ (other : Key × ℕ). AllByRecursion (AreOthers other) (row ∷ after)) (λ (other : Key × ℕ). AllByRecursion (AreOthers other) after) (λ other each. each.1) after all.1),
)

-- and the other way round
others_apart : (row other : Key × ℕ) → nat_eq row.1 other.1 ≡ false → AreOthers row other
others_apart row other apart same = absurd (let e = sym (eq-eqb row.1 other.1 same) ∙ apart in cc)

others_back : (row other : Key × ℕ) → nat_eq row.1 other.1 ≡ false → AreOthers other row
others_back row other apart same = absurd (let e = sym (eq-eqb row.1 other.1 (sym same)) ∙ apart in cc)

distinct_all : (labels : List (Key × ℕ)) → IsDistinct nat_eq (values_of labels) → AllByRecursion (λ row. AllByRecursion (AreOthers row) labels) labels
unfolding IsDistinct
distinct_all [] are = tt
distinct_all (row ∷ after) are =
    let apart = all-from_map (λ label. nat_eq row.1 label ≡ false) (λ (other : Key × ℕ). other.1) after are.0 in (
      (λ same. ap is_eq (tied_itself key_total row.0), all-weaker (λ (other : Key × ℕ). nat_eq row.1 other.1 ≡ false) (AreOthers row) (λ other is. others_apart row other is) after apart),
      all-both (λ (other : Key × ℕ). nat_eq row.1 other.1 ≡ false) (λ (other : Key × ℕ). AllByRecursion (AreOthers other) after) (λ (other : Key × ℕ). AllByRecursion (AreOthers other) (row ∷ after))
          (λ other is each. (others_back row other is, each)) after apart (distinct_all after are.1),
    )

-- Each label is one LSP's just where those of two LSPs are others.
pub distinct_pairs : (labels : List (Key × ℕ)) → T (is_sorted key_cmp labels) → AllByRecursion (λ row. AllByRecursion (AreOthers row) labels) labels ↔ IsDistinct nat_eq (values_of labels)
distinct_pairs labels sorted = (pairs_distinct labels sorted, distinct_all labels)

-- a label that rests is held by none of LSPs whose labels don't rest
unheld : (labels : List (Key × ℕ)) (resting : List (ℕ × ℕ)) (label until : ℕ) → find nat_cmp label resting ≡ Some until → AllByRecursion (λ (row : Key × ℕ). find nat_cmp row.1 resting ≡ None) labels → is_held labels label ≡ false
unheld [] resting label until found none = refl
unheld (row ∷ labels) resting label until found none =
    let rest = unheld labels resting label until found none.1 in
    elim (row.1 == label) as (λ b. (row.1 == label) ≡ b → (b || is_held labels label) ≡ false) [
      | true ↦ λ same. absurd (let there : find nat_cmp row.1 resting ≡ Some until = ap (λ n. find nat_cmp n resting) (eqb-true row.1 label same) ∙ found in let first = none.0 in cc)
      | false ↦ λ other. rest
    ] refl

-- a label that is held by one of some LSPs is held by one of more
held_more : (row : Key × ℕ) (labels : List (Key × ℕ)) (label : ℕ) → is_held labels label ≡ true → is_held (row ∷ labels) label ≡ true
held_more row labels label is = elim (row.1 == label) as (λ b. (b || is_held labels label) ≡ true) [ true ↦ refl | false ↦ is ]

-- each LSP's label is held
held_each : (labels : List (Key × ℕ)) → AllByRecursion (λ (row : Key × ℕ). is_held labels row.1 ≡ true) labels
held_each [] = tt
held_each (row ∷ labels) = (
  ap (λ b. b || is_held labels row.1) (eq-eqb row.1 row.1 refl),
  all-weaker (λ (other : Key × ℕ). is_held labels other.1 ≡ true) (λ (other : Key × ℕ). is_held (row ∷ labels) other.1 ≡ true) (λ other is. held_more row labels other.1 is) labels (held_each labels),
)

-- No LSP holds a label that rests just where no label rests that an LSP holds.
pub rest_apart : (labels : List (Key × ℕ)) (resting : List (ℕ × ℕ)) → T (is_sorted nat_cmp resting) → AllByRecursion (λ (row : Key × ℕ). find nat_cmp row.1 resting ≡ None) labels ↔ AreApart labels resting
rest_apart labels resting sorted = (
  λ none. all-from_find nat_cmp nat_cmp_total (λ (row : ℕ × ℕ). is_held labels row.0 ≡ false) resting sorted (λ label until found. unheld labels resting label until found none),
  λ apart. all-weaker (λ (row : Key × ℕ). is_held labels row.1 ≡ true) (λ (row : Key × ℕ). find nat_cmp row.1 resting ≡ None) (λ row held.
      by (is_held labels row.1) (find nat_cmp row.1 resting) held (find-all_row nat_cmp exact_unsigned (λ (other : ℕ × ℕ). is_held labels other.0 ≡ false) row.1 resting apart)) labels (held_each labels),
)
  where
    by : (b : Bool) (o : Option ℕ) → b ≡ true → IfSome o (λ until. b ≡ false) → o ≡ None
    by b None held apart = refl
    by b (Some until) held apart = absurd (let e = held in let f = apart in cc)
