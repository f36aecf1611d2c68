-- Laws of what is assigned of a bypass: the sum over rows, of which none has the key of another.
use Rattle.std.specs.Prelude.{◌≡◌, ℕ, ◌+◌, ◌≤◌, true, false, cond, not, T, List, [], ◌∷◌, Option, Some, None}
use Rattle.std.specs.Cmp.{IsTotalOrder, eq_by_cmp_equiv}
use Rattle.std.specs.FinMap.Entries.{find, is_sorted, is_sorted-where_key, put, where_key}
use Rattle.std.specs.Option.{option_map_or}
use Rattle.std.specs.Ordering.{eq_by_cmp, is_eq}
use Rattle.std.specs.declared.cmp.Ordering.{Ordering}
use Rattle.std.proofs.Common.{refl, ap, ◌∙◌, arith}
use Rattle.std.proofs.lemmas.Bool.{eq-eqb}
use Rattle.std.proofs.lemmas.List.Sums.{sum_by-cons}
use Rattle.sorted_rows.specs.RowsLaws.{find-behind, find-first, find-removed, second, sum_by-put, sum_by-removed, ties}
use Rattle.lsr_facts.specs.declared.assignment.Assignment.{Assignment}
use Rattle.bypass_shares.specs.Shares.{assigned_of, taken_of}

-- a value is not none
pub some_none : {A : Type 0} (o : Option A) (x : A) → o ≡ Some x → o ≡ None → {P : Type 0} → P
some_none o x is none = absurd cc

-- one value
pub same_value : {A : Type 0} (o : Option A) (x y : A) → o ≡ Some x → o ≡ Some y → x ≡ y
same_value o x y p q = cc

-- an assignment takes its rate of its own bypass
pub taken_of_own : (given : Assignment) → taken_of given.bypass given ≡ given.rate
taken_of_own given = ap (λ b. cond b given.rate 0) (eq-eqb given.bypass given.bypass refl)

-- the steps of the laws below
without_old : (a b t old : ℕ) → a + old ≡ b + t → old ≡ 0 → a ≡ b + t
without_old a b t old is none = omega arith

one_less : (v s t a b old : ℕ) → a ≡ v + s → t + old ≡ b → old ≡ v → s ≤ t → a ≤ b
one_less v s t a b old front rest is within = omega arith

module _ {K : Type 0} (cmp : K → K → Ordering) (total : IsTotalOrder cmp) where
  -- a new row adds what it takes
  pub assigned_of-put : (number : ℕ) (key : K) (given : Assignment) (pairs : List (K × Assignment)) → T (is_sorted cmp pairs) → find cmp key pairs ≡ None → assigned_of number (put cmp key given pairs) ≡ assigned_of number pairs + taken_of number given
  assigned_of-put number key given pairs in_order absent =
      without_old _ _ _ (option_map_or (taken_of number) (find cmp key pairs) 0) (sum_by-put cmp total (taken_of number) key given pairs in_order) (ap (λ o. option_map_or (taken_of number) o 0) absent)

  -- a key that is found behind the first row is another
  apart_behind : (q : K) (pair : K × Assignment) (pairs : List (K × Assignment)) (value : Assignment) → T (is_sorted cmp (pair ∷ pairs)) → find cmp q pairs ≡ Some value → eq_by_cmp cmp q pair.0 ≡ false
  apart_behind q pair pairs value in_order found =
      elim (eq_by_cmp cmp q pair.0) as (λ b. eq_by_cmp cmp q pair.0 ≡ b → b ≡ false) [
        | true ↦ λ tie. some_none (find cmp q pairs) value found (find-behind cmp total q pair pairs in_order (ties _ tie))
        | false ↦ λ apart. refl
      ] refl

  -- what is found behind the first row is found in all
  found_behind : (q : K) (pair : K × Assignment) (pairs : List (K × Assignment)) (value : Assignment) → T (is_sorted cmp (pair ∷ pairs)) → find cmp q pairs ≡ Some value → find cmp q (pair ∷ pairs) ≡ Some value
  found_behind q pair pairs value in_order found =
      ap (λ b. cond b (Some pair.1) (find cmp q pairs)) (apart_behind q pair pairs value in_order found) ∙ found

  -- and in what is left of others without the first row
  found_left : (q : K) (pair : K × Assignment) (pairs all : List (K × Assignment)) (value : Assignment) → T (is_sorted cmp (pair ∷ pairs)) → find cmp q pairs ≡ Some value → find cmp q all ≡ Some value → find cmp q (where_key cmp (λ k. not (is_eq (cmp pair.0 k))) all) ≡ Some value
  found_left q pair pairs all value in_order found is =
      find-removed cmp total q pair.0 all
      ∙ ap (λ b. cond (not b) (find cmp q all) None) ((eq_by_cmp_equiv total).symm pair.0 q ∙ apart_behind q pair pairs value in_order found)
      ∙ is

  -- Rows that are among others take no more of a bypass than those.
  pub assigned_of-among : (number : ℕ) (pairs all : List (K × Assignment)) → T (is_sorted cmp pairs) → T (is_sorted cmp all) → ((q : K) (value : Assignment) → find cmp q pairs ≡ Some value → find cmp q all ≡ Some value) → assigned_of number pairs ≤ assigned_of number all
  assigned_of-among number [] all in_order all_in_order among = omega arith
  assigned_of-among number (pair ∷ pairs) all in_order all_in_order among =
      let left = where_key cmp (λ k. not (is_eq (cmp pair.0 k))) all in
      let front = among pair.0 pair.1 (find-first cmp total pair pairs) in
      let rest = assigned_of-among number pairs left (second _ _ in_order) (is_sorted-where_key cmp (λ k. not (is_eq (cmp pair.0 k))) all all_in_order) (λ q value found. found_left q pair pairs all value in_order found (among q value (found_behind q pair pairs value in_order found))) in
      one_less (taken_of number pair.1) _ _ _ _ (option_map_or (taken_of number) (find cmp pair.0 all) 0)
      (sum_by-cons (λ (row : K × Assignment). taken_of number row.1) pair pairs)
      (sum_by-removed cmp total (taken_of number) pair.0 all all_in_order)
      (ap (λ o. option_map_or (taken_of number) o 0) front)
      rest
