-- Laws of the labels that LSPs hold.
use Rattle.std.specs.Prelude.{◌≡◌, ℕ, ◌==◌, ◌||◌, ◌⊎◌, true, false, cond, not, nat_eq, T, List, [], ◌∷◌, Option, None, Some, IfSome, is_none}
use Rattle.std.specs.FinMap.Entries.{find, is_sorted}
use Rattle.std.specs.List.{AllByRecursion, IsDistinct}
use Rattle.std.specs.Ordering.{eq_by_cmp, nat_cmp}
use Rattle.std.proofs.Common.{refl, sym, ap, subst, ◌∙◌, inl, inr}
use Rattle.std.proofs.lemmas.Bool.{and_from, and_parts, cases_Bool, eqb-false, eqb-true, ne_eqb, not-true, not_from_false, true_from_ne_false}
use Rattle.std.proofs.lemmas.Map.Keys.{IsDistinct-head, IsDistinct-tail}
use Rattle.std.proofs.lemmas.Option.{same_Some}
use Rattle.sorted_rows.specs.ListLaws.{all-from_map}
use Rattle.sorted_rows.specs.Rows.{values_of}
use Rattle.sorted_rows.specs.RowsLaws.{all-from_find, all_found, find-all, ties}
use Rattle.lsr_facts.specs.OrderLaws.{key_exact, key_total}
use Rattle.lsr_facts.specs.Orders.{key_cmp}
use Rattle.lsr_facts.specs.declared.key.Key.{Key}
use Rattle.label_space.specs.FreeLabels.{is_free, is_held}

-- a label that no LSP holds differs from each that one holds
pub unheld_differs : (labels : List (Key × ℕ)) (label : ℕ) → is_held labels label ≡ false → AllByRecursion (λ (row : Key × ℕ). (row.1 == label) ≡ false) labels
unheld_differs [] label = λ unheld. tt
unheld_differs (row ∷ labels) label =
    elim (row.1 == label) as (λ b. (row.1 == label) ≡ b → (b || is_held labels label) ≡ false → AllByRecursion (λ (held : Key × ℕ). (held.1 == label) ≡ false) (row ∷ labels)) [
      | true ↦ λ same unheld. absurd (let e = unheld in cc)
      | false ↦ λ apart unheld. (apart, unheld_differs labels label unheld)
    ] refl

-- and the other way round
unheld_where : (labels : List (Key × ℕ)) (label : ℕ) → AllByRecursion (λ (row : Key × ℕ). (row.1 == label) ≡ false) labels → is_held labels label ≡ false
unheld_where [] label differs = refl
unheld_where (row ∷ labels) label differs = ap (λ b. b || is_held labels label) differs.0 ∙ unheld_where labels label differs.1

-- A label that no LSP holds is found under no key.
pub unheld-not_found : (labels : List (Key × ℕ)) (label : ℕ) → is_held labels label ≡ false → (key : Key) → find key_cmp key labels ≡ Some label → ⊥
unheld-not_found labels label unheld key found =
    eqb-false label label (subst (λ o. IfSome o (λ v. (v == label) ≡ false)) found (find-all key_cmp (λ v. (v == label) ≡ false) key labels (unheld_differs labels label unheld))) refl

-- and the other way round
pub unheld-from_not_found : (labels : List (Key × ℕ)) (label : ℕ) → T (is_sorted key_cmp labels) → ((key : Key) → find key_cmp key labels ≡ Some label → ⊥) → is_held labels label ≡ false
unheld-from_not_found labels label sorted absent =
    unheld_where labels label (all-from_find key_cmp key_total (λ row. (row.1 == label) ≡ false) labels sorted (λ key v found. ne_eqb v label (λ same. absent key (found ∙ ap Some same))))

-- What is found under a key is held.
pub held-found : (labels : List (Key × ℕ)) (label : ℕ) (key : Key) → find key_cmp key labels ≡ Some label → is_held labels label ≡ true
held-found labels label key found = true_from_ne_false (is_held labels label) (λ unheld. unheld-not_found labels label unheld key found)

-- one of the rows holds a label that one of them holds
holder : (labels : List (Key × ℕ)) (label : ℕ) (rows : List (Key × ℕ)) → AllByRecursion (λ (row : Key × ℕ). find key_cmp row.0 labels ≡ Some row.1) rows → is_held rows label ≡ true → (key : Key) × (find key_cmp key labels ≡ Some label)
holder labels label [] = λ found held. absurd (let e = held in cc)
holder labels label (row ∷ rows) =
    elim (row.1 == label) as (λ b. (row.1 == label) ≡ b → AllByRecursion (λ (row : Key × ℕ). find key_cmp row.0 labels ≡ Some row.1) (row ∷ rows) → (b || is_held rows label) ≡ true → (key : Key) × (find key_cmp key labels ≡ Some label)) [
      | true ↦ λ same found held. (row.0, found.0 ∙ ap Some (eqb-true row.1 label same))
      | false ↦ λ apart found held. holder labels label rows found.1 held
    ] refl

-- What is held is found under a key.
pub held-key : (labels : List (Key × ℕ)) (label : ℕ) → T (is_sorted key_cmp labels) → is_held labels label ≡ true → (key : Key) × (find key_cmp key labels ≡ Some label)
held-key labels label sorted held = holder labels label labels (all_found key_cmp key_total labels sorted) held

-- A label is held by no LSP, or one holds it.
pub cases_held : (labels : List (Key × ℕ)) (label : ℕ) → T (is_sorted key_cmp labels) → (is_held labels label ≡ false) ⊎ ((key : Key) × (find key_cmp key labels ≡ Some label))
cases_held labels label sorted =
    elim (cases_Bool (is_held labels label)) [ inl held ↦ inr (held-key labels label sorted held) | inr unheld ↦ inl unheld ]

-- A free label is held by no LSP,
pub free-unheld : (labels : List (Key × ℕ)) (resting : List (ℕ × ℕ)) (label : ℕ) → is_free labels resting label ≡ true → is_held labels label ≡ false
free-unheld labels resting label free = not-true (is_held labels label) (and_parts (not (is_held labels label)) (is_none (find nat_cmp label resting)) free).0

-- and doesn't rest.
pub free-awake : (labels : List (Key × ℕ)) (resting : List (ℕ × ℕ)) (label : ℕ) → is_free labels resting label ≡ true → find nat_cmp label resting ≡ None
free-awake labels resting label free = none_where (find nat_cmp label resting) (and_parts (not (is_held labels label)) (is_none (find nat_cmp label resting)) free).1
  where
    none_where : (o : Option ℕ) → is_none o ≡ true → o ≡ None
    none_where None is = refl
    none_where (Some until) is = absurd (let e = is in cc)

-- and the other way round
pub free-from : (labels : List (Key × ℕ)) (resting : List (ℕ × ℕ)) (label : ℕ) → is_held labels label ≡ false → find nat_cmp label resting ≡ None → is_free labels resting label ≡ true
free-from labels resting label unheld awake =
    and_from (not (is_held labels label)) (is_none (find nat_cmp label resting)) (not_from_false (is_held labels label) unheld) (ap is_none awake)

-- what is found among rows is found in the first of them or among the others
cases_found : (row : Key × ℕ) (rows : List (Key × ℕ)) (key : Key) (label : ℕ) → find key_cmp key (row ∷ rows) ≡ Some label → ((key ≡ row.0) × (row.1 ≡ label)) ⊎ (find key_cmp key rows ≡ Some label)
cases_found row rows key label =
    elim (eq_by_cmp key_cmp key row.0) as (λ b. eq_by_cmp key_cmp key row.0 ≡ b → cond b (Some row.1) (find key_cmp key rows) ≡ Some label → ((key ≡ row.0) × (row.1 ≡ label)) ⊎ (find key_cmp key rows ≡ Some label)) [
      | true ↦ λ tie here. inl (key_exact key row.0 (ties _ tie), same_Some row.1 label here)
      | false ↦ λ apart later. inr later
    ] refl

-- where values are apart, the first isn't found among the others
first_apart : (row : Key × ℕ) (rows : List (Key × ℕ)) → IsDistinct nat_eq (values_of (row ∷ rows)) → (key : Key) (label : ℕ) → row.1 ≡ label → find key_cmp key rows ≡ Some label → ⊥
first_apart row rows apart key label same found =
    eqb-false row.1 label (subst (λ o. IfSome o (λ v. (row.1 == v) ≡ false)) found (find-all key_cmp (λ v. (row.1 == v) ≡ false) key rows (all-from_map (λ v. (row.1 == v) ≡ false) (λ (held : Key × ℕ). held.1) rows (IsDistinct-head nat_eq row.1 (values_of rows) apart)))) same

-- Where each label is held by one LSP, it is found under one key.
pub one_key : (labels : List (Key × ℕ)) → IsDistinct nat_eq (values_of labels) → (a b : Key) (label : ℕ) → find key_cmp a labels ≡ Some label → find key_cmp b labels ≡ Some label → a ≡ b
one_key [] apart a b label at_a at_b = absurd (let e = at_a in cc)
one_key (row ∷ rows) apart a b label at_a at_b =
    elim (cases_found row rows a label at_a) [
      | inl here_a ↦ elim (cases_found row rows b label at_b) [
        | inl here_b ↦ here_a.0 ∙ sym here_b.0
        | inr later_b ↦ absurd (first_apart row rows apart b label here_a.1 later_b)
      ]
      | inr later_a ↦ elim (cases_found row rows b label at_b) [
        | inl here_b ↦ absurd (first_apart row rows apart a label here_b.1 later_a)
        | inr later_b ↦ one_key rows (IsDistinct-tail nat_eq row.1 (values_of rows) apart) a b label later_a later_b
      ]
    ]
