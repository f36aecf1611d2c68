-- What is promised of bypasses, by their numbers.
use Rattle.std.specs.Prelude.{◌≡◌, ◌↔◌, ◌≤◌, ◌==◌, ◌+◌, ℕ, Bool, true, false, if◌then◌else◌, T, List, [], ◌∷◌, Option, Some, None, IfSome}
use Rattle.std.specs.FinMap.Entries.{find, is_sorted}
use Rattle.std.specs.List.{AllByRecursion}
use Rattle.std.specs.Option.{option_map_or}
use Rattle.std.specs.Ordering.{nat_cmp}
use Rattle.std.proofs.Common.{refl, sym, ap, subst, ◌∙◌, arith}
use Rattle.std.proofs.lemmas.Bool.{eqb-true}
use Rattle.std.proofs.lemmas.Cmp.{nat_cmp_total}
use Rattle.std.proofs.lemmas.List.Sums.{sum_by-cons}
use Rattle.std.proofs.lemmas.Map.Lookups.{exact_unsigned}
use Rattle.sorted_rows.specs.RowsLaws.{all-from_find, find-all_row}
use Rattle.lsr_facts.specs.Orders.{key_cmp}
use Rattle.lsr_facts.specs.declared.assignment.Assignment.{Assignment}
use Rattle.lsr_facts.specs.declared.bypass.Bypass.{Bypass}
use Rattle.lsr_facts.specs.declared.key.Key.{Key}
use Rattle.bypass_shares.specs.Shares.{IsWithin, assigned_of, capacity_in, taken_of}
use Rattle.abstract_router.specs.Soundness.{IsOfCapacity}

-- nothing is taken of a bypass that has nothing to promise
taken_none : (bypasses : List (ℕ × Bypass)) (number : ℕ) (given : Assignment) → capacity_in bypasses number ≡ 0 → 1 ≤ capacity_in bypasses given.bypass → (b : Bool) → (given.bypass == number) ≡ b → (if b then given.rate else 0) ≡ 0
taken_none bypasses number given none capable true is =
    let same : capacity_in bypasses given.bypass ≡ 0 = ap (capacity_in bypasses) (eqb-true given.bypass number is) ∙ none in
    absurd (omega (arith, same))
taken_none bypasses number given none capable false is = refl

none_assigned : (bypasses : List (ℕ × Bypass)) (number : ℕ) (pairs : List (Key × Assignment)) → capacity_in bypasses number ≡ 0 → AllByRecursion (IsOfCapacity bypasses) pairs → assigned_of number pairs ≡ 0
none_assigned bypasses number [] none capable = refl
none_assigned bypasses number (pair ∷ pairs) none capable =
    let first : taken_of number pair.1 ≡ 0 = taken_none bypasses number pair.1 none capable.0 (pair.1.bypass == number) refl in
    let rest = none_assigned bypasses number pairs none capable.1 in
    let whole : taken_of number pair.1 + assigned_of number pairs ≡ 0 = omega (arith, first, rest) in
    sum_by-cons (λ (given : Key × Assignment). taken_of number given.1) pair pairs ∙ whole

-- No bypass is assigned above its capacity just where none of those that are there is, if all that is promised is of such.
pub within : (bypasses : List (ℕ × Bypass)) (pairs : List (Key × Assignment)) → T (is_sorted nat_cmp bypasses) → AllByRecursion (IsOfCapacity bypasses) pairs
    → AllByRecursion (λ (bypass : ℕ × Bypass). assigned_of bypass.0 pairs ≤ bypass.1.capacity) bypasses ↔ IsWithin key_cmp (capacity_in bypasses) pairs
within bypasses pairs sorted capable = (
  λ all number. by number (find nat_cmp number bypasses) refl (find-all_row nat_cmp exact_unsigned (λ (bypass : ℕ × Bypass). assigned_of bypass.0 pairs ≤ bypass.1.capacity) number bypasses all),
  λ are. all-from_find nat_cmp nat_cmp_total (λ (bypass : ℕ × Bypass). assigned_of bypass.0 pairs ≤ bypass.1.capacity) bypasses sorted (λ number bypass found.
      subst (λ (o : Option Bypass). assigned_of number pairs ≤ option_map_or (λ b. b.capacity) o 0) found (are number)),
)
  where
    by : (number : ℕ) (o : Option Bypass) → find nat_cmp number bypasses ≡ o → IfSome o (λ bypass. assigned_of number pairs ≤ bypass.capacity) → assigned_of number pairs ≤ capacity_in bypasses number
    by number (Some bypass) is holds = subst (λ (o : Option Bypass). assigned_of number pairs ≤ option_map_or (λ b. b.capacity) o 0) (sym is) holds
    by number None is holds =
        let none : capacity_in bypasses number ≡ 0 = ap (λ (o : Option Bypass). option_map_or (λ b. b.capacity) o 0) is in
        let nothing = none_assigned bypasses number pairs none capable in
        omega (arith, nothing)
