-- What is left once some of it is taken.
use Rattle.std.proofs.Common.{◌≡◌, ℕ, ◌+◌, ◌-◌, ◌<◌, ◌≤◌, ◌==◌, true, false, cond, T, List, [], ◌∷◌, length, map, take, get_or, Some, None, refl, ap, sym, subst, ◌∙◌, arith}
use Rattle.std.specs.FinMap.Entries.{find, find-put, is_sorted, put}
use Rattle.std.specs.Option.{option_map, option_map_or}
use Rattle.std.specs.Ordering.{eq_by_cmp, is_eq, nat_cmp}
use Rattle.std.proofs.lemmas.Bool.{eqb-true, leb-true}
use Rattle.std.proofs.lemmas.Cmp.{nat_cmp_total, tied_itself}
use Rattle.std.proofs.lemmas.List.Sums.{sum_by_more, sum_by-take-le}
use Rattle.std.proofs.lemmas.Map.Lookups.{exact_unsigned}
use Rattle.lsr_facts.specs.declared.assignment.Assignment.{Assignment}
use Rattle.lsr_facts.specs.declared.bypass.Bypass.{Bypass}
use Rattle.sorted_rows.specs.RowsLaws.{find-map, is_sorted-both, ties}
use Rattle.sorted_rows.specs.Rows.{keys_of}
use Rattle.bypass_shares.specs.Left.{AreLeft, left_at}
use Rattle.bypass_shares.specs.Shares.{IsWithin, assigned_of, capacity_in, has_room, taken_of}
use Rattle.bypass_shares.specs.SumLaws.{taken_of_own}
use Rattle.std.specs.declared.cmp.Ordering.{Ordering}

-- the steps of the laws below
own_step : (left rate before after taken most : ℕ) → rate ≤ left → left + before ≡ most → after ≡ before + taken → taken ≡ rate → (left - rate) + after ≡ most
own_step left rate before after taken most fits is sum own = omega arith

other_step : (left before after taken most : ℕ) → left + before ≡ most → after ≡ before + taken → taken ≡ 0 → left + after ≡ most
other_step left before after taken most is sum none = omega arith

fits_step : (left rate before after taken all most : ℕ) → left + before ≡ most → after ≡ before + taken → taken ≡ rate → after ≤ all → all ≤ most → rate ≤ left
fits_step left rate before after taken all most is sum own upto within = omega arith

-- another bypass takes nothing of this one
taken_of_other : (number : ℕ) (given : Assignment) → eq_by_cmp nat_cmp number given.bypass ≡ false → taken_of number given ≡ 0
taken_of_other number given apart =
    elim (given.bypass == number) as (λ b. (given.bypass == number) ≡ b → cond b given.rate 0 ≡ 0) [
      | true ↦ λ is.
          let same = eqb-true given.bypass number is in
          let tied : eq_by_cmp nat_cmp number given.bypass ≡ true = ap (λ n. eq_by_cmp nat_cmp number n) same ∙ ap is_eq (tied_itself nat_cmp_total number) in
          cc
      | false ↦ λ is. refl
    ] refl

-- what is left of a bypass, once so much was taken of one
pub left_at-taken : (left : List (ℕ × ℕ)) (given : Assignment) (number before after most : ℕ) → given.rate ≤ left_at left given.bypass → left_at left number + before ≡ most → after ≡ before + taken_of number given → left_at (put nat_cmp given.bypass (left_at left given.bypass - given.rate) left) number + after ≡ most
left_at-taken left given number before after most fits is sum =
    let rest = left_at left given.bypass - given.rate in
    let found = find-put nat_cmp nat_cmp_total number given.bypass rest left in
    subst (λ o. option_map_or (λ (rate : ℕ). rate) o 0 + after ≡ most) (sym found) (elim (eq_by_cmp nat_cmp number given.bypass) as (λ b. eq_by_cmp nat_cmp number given.bypass ≡ b → option_map_or (λ rate. rate) (cond b (Some rest) (find nat_cmp number left)) 0 + after ≡ most) [
      | true ↦ λ tie.
          let same : number ≡ given.bypass = exact_unsigned number given.bypass (ties _ tie) in
          own_step (left_at left given.bypass) given.rate before after (taken_of number given) most fits (ap (λ n. left_at left n + before) (sym same) ∙ is) sum (ap (λ n. taken_of n given) same ∙ taken_of_own given)
      | false ↦ λ apart. other_step (left_at left number) before after (taken_of number given) most is sum (taken_of_other number given apart)
    ] refl)

-- where there is room for a rate, so much is left
pub room_left : {K : Type 0} (cmp : K → K → Ordering) (capacity : ℕ → ℕ) (left : List (ℕ × ℕ)) (pairs : List (K × Assignment)) (rate number : ℕ) → AreLeft capacity left pairs → has_room cmp capacity pairs rate number ≡ true → rate ≤ left_at left number
room_left cmp capacity left pairs rate number are_left room =
    let fits = leb-true (assigned_of number pairs + rate) (capacity number) room in
    let is = are_left number in
    omega (arith, fits, is)

-- the capacities, where nothing is assigned
pub capacities_left : (left : List (ℕ × ℕ)) (bypasses : List (ℕ × Bypass)) (number : ℕ) → left ≡ map (λ row. (row.0, row.1.capacity)) bypasses → left_at left number + 0 ≡ capacity_in bypasses number
capacities_left left bypasses number is =
    ap (λ rows. left_at rows number + 0) is
    ∙ ap (λ o. option_map_or (λ (rate : ℕ). rate) o 0 + 0) (find-map nat_cmp (λ (bypass : Bypass). bypass.capacity) number bypasses)
    ∙ elim (find nat_cmp number bypasses) as (λ o. option_map_or (λ (rate : ℕ). rate) (option_map (λ (bypass : Bypass). bypass.capacity) o) 0 + 0 ≡ option_map_or (λ (bypass : Bypass). bypass.capacity) o 0) [ None ↦ refl | Some bypass ↦ omega arith ]

-- the keys of capacities are those of bypasses, in order
keys-capacities : (bypasses : List (ℕ × Bypass)) → keys_of (map (λ row. (row.0, row.1.capacity)) bypasses) ≡ keys_of bypasses
keys-capacities [] = refl
keys-capacities (row ∷ bypasses) = ap (λ keys. row.0 ∷ keys) (keys-capacities bypasses)

pub capacities_in_order : (rows : List (ℕ × ℕ)) (bypasses : List (ℕ × Bypass)) → rows ≡ map (λ row. (row.0, row.1.capacity)) bypasses → T (is_sorted nat_cmp bypasses) → T (is_sorted nat_cmp rows)
capacities_in_order rows bypasses is h = subst T (sym (ap (is_sorted nat_cmp) is ∙ is_sorted-both nat_cmp (map (λ row. (row.0, row.1.capacity)) bypasses) bypasses (keys-capacities bypasses))) h

-- once one more row is taken, which is within the capacities with those so far
pub left_more : {K : Type 0} (cmp : K → K → Ordering) (capacity : ℕ → ℕ) (left after : List (ℕ × ℕ)) (pairs : List (K × Assignment)) (i : ℕ) (d : K × Assignment) → IsWithin cmp capacity pairs → i < length pairs → AreLeft capacity left (take i pairs) → after ≡ put nat_cmp (get_or pairs i d).1.bypass (left_at left (get_or pairs i d).1.bypass - (get_or pairs i d).1.rate) left → AreLeft capacity after (take (i + 1) pairs)
left_more cmp capacity left after pairs i d within inside are_left is = λ number.
    let given = (get_or pairs i d).1 in
    let own = given.bypass in
    let more = λ (n : ℕ). sum_by_more (λ pair. taken_of n pair.1) pairs i d inside in
    let fits = fits_step (left_at left own) given.rate (assigned_of own (take i pairs)) (assigned_of own (take (i + 1) pairs)) (taken_of own given) (assigned_of own pairs) (capacity own) (are_left own) (more own) (taken_of_own given) (sum_by-take-le (λ pair. taken_of own pair.1) pairs (i + 1)) (within own) in
    ap (λ rows. left_at rows number + assigned_of number (take (i + 1) pairs)) is
    ∙ left_at-taken left given number (assigned_of number (take i pairs)) (assigned_of number (take (i + 1) pairs)) (capacity number) fits (are_left number) (more number)

-- the same, where the rows are read from a slice
pub left_more-slice : {K : Type 0} (cmp : K → K → Ordering) (capacity : ℕ → ℕ) (left after : List (ℕ × ℕ)) (pairs items : List (K × Assignment)) (i : ℕ) (d : K × Assignment) → items ≡ pairs → IsWithin cmp capacity pairs → i < length items → AreLeft capacity left (take i pairs) → after ≡ put nat_cmp (get_or items i d).1.bypass (left_at left (get_or items i d).1.bypass - (get_or items i d).1.rate) left → AreLeft capacity after (take (i + 1) pairs)
left_more-slice cmp capacity left after pairs items i d same within inside are_left is =
    left_more cmp capacity left after pairs i d within (subst (λ rows. i < length rows) same inside) are_left (is ∙ ap (λ rows. put nat_cmp (get_or rows i d).1.bypass (left_at left (get_or rows i d).1.bypass - (get_or rows i d).1.rate) left) same)
