-- What bypasses promise in a sound state: nothing where none has bandwidth, and what they promise is enough for all repairs.
use Rattle.std.specs.Prelude.{◌≡◌, ℕ, ◌+◌, ◌≤◌, ◌==◌, ◌++◌, not, Bool, true, false, cond, if◌then◌else◌, T, List, [], ◌∷◌, filter, find as find_first, Option, Some, None, IfSome}
use Rattle.std.specs.Cmp.{eq_by_cmp_equiv}
use Rattle.std.specs.FinMap.Entries.{find, is_sorted, is_sorted-where_key, where_key}
use Rattle.std.specs.List.{AllByRecursion, sum_by}
use Rattle.std.specs.Option.{option_map_or, option_or}
use Rattle.std.specs.Ordering.{eq_by_cmp, is_eq, nat_cmp}
use Rattle.std.proofs.Common.{refl, ap, sym, ◌∙◌, subst, ⊎_elim, arith}
use Rattle.std.proofs.lemmas.Bool.{eq-eqb, eqb-true}
use Rattle.std.proofs.lemmas.List.Sums.{sum_by-cons}
use Rattle.std.proofs.lemmas.Option.{same_Some}
use Rattle.sorted_rows.specs.ListLaws.{all-weaker}
use Rattle.sorted_rows.specs.RowsLaws.{find-all, find-behind, find-first, find-removed_other, second, sum_by-removed, ties}
use Rattle.lsr_facts.specs.OrderLaws.{key_total}
use Rattle.lsr_facts.specs.Orders.{key_cmp}
use Rattle.lsr_facts.specs.declared.assignment.Assignment.{Assignment}
use Rattle.lsr_facts.specs.declared.bypass.Bypass.{Bypass}
use Rattle.lsr_facts.specs.declared.key.Key.{Key}
use Rattle.lsr_facts.specs.declared.path_fact.PathFact.{PathFact}
use Rattle.lsr_facts.specs.declared.repair.Repair.{Repair}
use Rattle.lsr_facts.specs.declared.repair.Selected.{Selected}
use Rattle.lsr_facts.specs.declared.resv_fact.ResvFact.{ResvFact}
use Rattle.lsr_facts.specs.declared.router.Router.{Router}
use Rattle.bypass_shares.specs.Shares.{taken_of}
use Rattle.abstract_router.specs.Assigning.{capacity_in, rate_in}
use Rattle.abstract_router.specs.Lsps.{around_of}
use Rattle.abstract_router.specs.Protecting.{candidates_of, is_preferred, is_protected, may_serve, selected, ways_around}
use Rattle.abstract_router.specs.Soundness.{IsHolding, IsOfCapacity, IsServed, IsSound}
use Rattle.abstract_router.specs.States.{State}
use Rattle.router_soundness.proofs.AssigningRepairs.{of_found}
use Rattle.router_soundness.proofs.AssigningWays.{IsWay, candidates-are}
use Rattle.router_laws.specs.Promises.{HasNoCapacity, brought_by, brought_over}

-- ---- what is brought over a bypass

one_covered : (sum front rest left had all : ℕ) → sum ≡ front + rest → front ≤ had → rest ≤ left → left + had ≡ all → sum ≤ all
one_covered sum front rest left had all cons covers behind removed = omega arith

-- a sum over rows of which each is covered by the row of its key among others is no more than the sum over those
sum_by-covered : {A B : Type 0} (f : A → ℕ) (g : B → ℕ) (rows : List (Key × A)) (all : List (Key × B)) → T (is_sorted key_cmp rows) → T (is_sorted key_cmp all)
    → ((q : Key) (a : A) → find key_cmp q rows ≡ Some a → f a ≤ option_map_or g (find key_cmp q all) 0) → sum_by (λ row. f row.1) rows ≤ sum_by (λ row. g row.1) all
sum_by-covered f g [] all in_order all_in_order covers = omega arith
sum_by-covered {A} {B} f g (row ∷ rows) all in_order all_in_order covers =
    let left = where_key key_cmp (λ k. not (is_eq (key_cmp row.0 k))) all in
    one_covered _ (f row.1) _ _ (option_map_or g (find key_cmp row.0 all) 0) _
    (sum_by-cons (λ (row : Key × A). f row.1) row rows)
    (covers row.0 row.1 (find-first key_cmp key_total row rows))
    (sum_by-covered f g rows left (second _ _ in_order) (is_sorted-where_key key_cmp (λ k. not (is_eq (key_cmp row.0 k))) all all_in_order) behind)
    (sum_by-removed key_cmp key_total g row.0 all all_in_order)
  where
    apart : (q : Key) (a : A) → find key_cmp q rows ≡ Some a → (b : Bool) → eq_by_cmp key_cmp q row.0 ≡ b → eq_by_cmp key_cmp q row.0 ≡ false
    apart q a found true tie = absurd (let e = sym found ∙ find-behind key_cmp key_total q row rows in_order (ties _ tie) in cc)
    apart q a found false other = other

    turned : (q : Key) → eq_by_cmp key_cmp q row.0 ≡ false → is_eq (key_cmp row.0 q) ≡ false
    turned q other = (eq_by_cmp_equiv key_total).symm row.0 q ∙ other

    behind : (q : Key) (a : A) → find key_cmp q rows ≡ Some a → f a ≤ option_map_or g (find key_cmp q (where_key key_cmp (λ k. not (is_eq (key_cmp row.0 k))) all)) 0
    behind q a found =
        let other = apart q a found (eq_by_cmp key_cmp q row.0) refl in
        subst (λ (o : Option B). f a ≤ option_map_or g o 0) (sym (find-removed_other key_cmp key_total q row.0 all (turned q other)))
        (covers q a (ap (λ (b : Bool). cond b (Some row.1) (find key_cmp q rows)) other ∙ found))

module _ (r : Router) (s : State) (is : IsSound r s) where
  abbrev capacity : ℕ → ℕ
  capacity = capacity_in s.facts.bypasses

  -- what an LSP brings over a bypass that has bandwidth to promise, it is promised of it
  promised_it : (number : ℕ) → 1 ≤ capacity number → (key : Key) (repair : Repair) → find key_cmp key s.repairs ≡ Some repair → brought_by number repair ≤ option_map_or (taken_of number) (find key_cmp key s.assignments) 0
  promised_it number some key repair found = by (repair.bypass == number) refl
    where
      holds : (given : Assignment) → find key_cmp key s.assignments ≡ Some given → IsHolding s (key, given) → rate_in repair.resv ≤ given.rate
      holds given at = ⊎_elim
          (λ (reserved : (resv : ResvFact) × (find key_cmp key s.resvs ≡ Some resv) × (rate_in resv ≡ given.rate)). absurd (let e = sym (of_found (λ (repair : Key × Repair). find key_cmp repair.0 s.resvs ≡ None) key repair s.repairs is.repaired.apart found) ∙ reserved.1 in cc))
          (λ (over : (own : Repair) × (find key_cmp key s.repairs ≡ Some own) × (rate_in own.resv ≤ given.rate) × (own.bypass ≡ given.bypass)). subst (λ (own : Repair). rate_in own.resv ≤ given.rate) (same_Some over.0 repair (sym over.1 ∙ found)) over.2)

      takes : (given : Assignment) → given.bypass ≡ number → rate_in repair.resv ≤ given.rate → rate_in repair.resv ≤ taken_of number given
      takes given own most = subst (λ (b : Bool). rate_in repair.resv ≤ cond b given.rate 0) (sym (eq-eqb given.bypass number own)) most

      by : (b : Bool) → (repair.bypass == number) ≡ b → (if b then rate_in repair.resv else 0) ≤ option_map_or (taken_of number) (find key_cmp key s.assignments) 0
      by false other = omega arith
      by true own =
          let same = eqb-true repair.bypass number own in
          ⊎_elim (λ (none : capacity repair.bypass ≡ 0). absurd (let no = ap capacity (sym same) ∙ none in omega (arith, some, no)))
          (λ (given : (given : Assignment) × (find key_cmp key s.assignments ≡ Some given) × (given.bypass ≡ repair.bypass)).
          subst (λ (o : Option Assignment). rate_in repair.resv ≤ option_map_or (taken_of number) o 0) (sym given.1)
          (takes given.0 (given.2 ∙ same) (holds given.0 given.1 (of_found (IsHolding s) key given.0 s.assignments is.assigned.held given.1))))
          (of_found (IsServed s) key repair s.repairs is.assigned.served found)

  -- All that is brought over a bypass that has bandwidth to promise is within it.
  pub brought_within : (number : ℕ) → 1 ≤ capacity number → brought_over s number ≤ capacity number
  brought_within number some =
      within (sum_by-covered (brought_by number) (taken_of number) s.repairs s.assignments is.repaired.in_order is.assigned.in_order (promised_it number some)) (is.assigned.within number)
    where
      within : {a b c : ℕ} → a ≤ b → b ≤ c → a ≤ c
      within x y = omega (arith, x, y)

-- ---- where no bypass has bandwidth

no_capacity : (s : State) → HasNoCapacity s → (number : ℕ) → capacity_in s.facts.bypasses number ≡ 0
no_capacity s none number = by (find nat_cmp number s.facts.bypasses) (find-all nat_cmp (λ (bypass : Bypass). bypass.capacity ≡ 0) number s.facts.bypasses none)
  where
    by : (o : Option Bypass) → IfSome o (λ bypass. bypass.capacity ≡ 0) → option_map_or (λ (bypass : Bypass). bypass.capacity) o 0 ≡ 0
    by None is = refl
    by (Some bypass) is = is

-- Nothing is promised.
pub none_promised : (r : Router) (s : State) → IsSound r s → HasNoCapacity s → s.assignments ≡ []
none_promised r s is none = by s.assignments is.assigned.capable
  where
    by : (pairs : List (Key × Assignment)) → AllByRecursion (IsOfCapacity s.facts.bypasses) pairs → pairs ≡ []
    by [] capable = refl
    by (pair ∷ pairs) capable = absurd (let none = no_capacity s none pair.1.bypass in omega (arith, capable.0, none))

-- the first of two lists
first_of_both : {A : Type 0} (xs ys : List A) → find_first (λ x. true) (xs ++ ys) ≡ option_or (find_first (λ x. true) xs) (find_first (λ x. true) ys)
first_of_both [] ys = refl
first_of_both (x ∷ xs) ys = refl

first_passing : {A : Type 0} (p : A → Bool) (xs : List A) → find_first (λ x. true) (filter p xs) ≡ find_first p xs
first_passing p [] = refl
first_passing p (x ∷ xs) =
    let rest = first_passing p xs in
    elim (p x) as (λ b. find_first (λ y. true) (cond b (x ∷ filter p xs) (filter p xs)) ≡ cond b (Some x) (find_first p xs)) [ true ↦ refl | false ↦ rest ]

-- the first that passes, or else the first
first_or : {A : Type 0} (p : A → Bool) (xs : List A) → option_or (find_first p xs) (find_first (λ x. not (p x)) xs) ≡ option_or (find_first p xs) (find_first (λ x. true) xs)
first_or p [] = refl
first_or p (x ∷ xs) =
    elim (p x) as (λ b. option_or (cond b (Some x) (find_first p xs)) (cond (not b) (Some x) (find_first (λ x. not (p x)) xs)) ≡ option_or (cond b (Some x) (find_first p xs)) (Some x)) [ true ↦ refl | false ↦ refl ]

-- what all pass is found first
all_pass : {A : Type 0} (p : A → Bool) (xs : List A) → AllByRecursion (λ x. p x ≡ true) xs → find_first p xs ≡ find_first (λ x. true) xs
all_pass p [] all = refl
all_pass p (x ∷ xs) all = ap (λ b. cond b (Some x) (find_first p xs)) all.0

-- the first of those that pass, before the others
first_preferred : {A : Type 0} (p : A → Bool) (xs : List A) → find_first (λ x. true) (filter p xs ++ filter (λ x. not (p x)) xs) ≡ option_or (find_first p xs) (find_first (λ x. true) xs)
first_preferred {A} p xs =
    first_of_both (filter p xs) (filter (λ x. not (p x)) xs)
    ∙ ap (λ (o : Option A). option_or o (find_first (λ x. true) (filter (λ x. not (p x)) xs))) (first_passing p xs)
    ∙ ap (option_or (find_first p xs)) (first_passing (λ x. not (p x)) xs)
    ∙ first_or p xs

-- An LSP is repaired as it would be if no bypass could have any.
pub selects_first : (r : Router) (s : State) (key : Key) (path : PathFact) (resv : ResvFact) → IsSound r s → HasNoCapacity s
    → selected (around_of r s) key path (find key_cmp key s.assignments) resv
    ≡ (if is_protected (around_of r s) key path
    then option_or (find_first (is_preferred path) (ways_around (around_of r s) resv)) (find_first (λ choice. true) (ways_around (around_of r s) resv))
    else None)
unfolding selected candidates_of
selects_first r s key path resv is none =
    ap (λ (o : Option Assignment). find_first (may_serve o) choices) (ap (find key_cmp key) (none_promised r s is none))
    ∙ all_pass (may_serve None) choices (all-weaker (IsWay r s) (λ choice. may_serve None choice ≡ true) (λ choice way. eq-eqb choice.capacity 0 (way.capacity ∙ no_capacity s none choice.bypass)) choices (candidates-are r s is.paths.bypasses.in_order key path resv))
    ∙ elim (is_protected (around_of r s) key path) as (λ b. find_first (λ choice. true) (cond b (filter (is_preferred path) ways ++ filter (λ choice. not (is_preferred path choice)) ways) []) ≡ cond b (option_or (find_first (is_preferred path) ways) (find_first (λ choice. true) ways)) None) [
      | true ↦ first_preferred (is_preferred path) ways
      | false ↦ refl
    ]
  where
    ways : List Selected
    ways = ways_around (around_of r s) resv

    choices : List Selected
    choices = candidates_of (around_of r s) key path resv
