-- What repaired LSPs are promised of bypasses stays as it should be, whichever change an event makes of repairs and of bypasses.
use Rattle.std.specs.Prelude.{◌≡◌, ℕ, ◌≤◌, ◌⊎◌, ◌==◌, ◌||◌, nat_le, Bool, true, false, cond, T, List, [], ◌∷◌, Option, Some, None, is_some, IfSome}
use Rattle.std.specs.FinMap.Entries.{find, find-put, find-where_key, is_sorted, is_sorted-where_key, put, where_key}
use Rattle.std.specs.List.{AllByRecursion, filter, list_any}
use Rattle.std.specs.Option.{option_map_or}
use Rattle.std.specs.Ordering.{eq_by_cmp}
use Rattle.std.proofs.Common.{refl, sym, ap, subst, ◌∙◌, inl, inr, arith}
use Rattle.std.proofs.lemmas.Bool.{eqb-true, leb-true, or_parts}
use Rattle.std.proofs.lemmas.List.Sums.{sum_by-cons}
use Rattle.sorted_rows.specs.ListLaws.{all-both, all-filter, all-weaker}
use Rattle.sorted_rows.specs.RowsLaws.{all-put_row, all_found, find-all_row, ties}
use Rattle.lsr_facts.specs.OrderLaws.{key_exact, key_total}
use Rattle.lsr_facts.specs.Orders.{key_cmp}
use Rattle.lsr_facts.specs.declared.assignment.Assignment.{Assignment}
use Rattle.lsr_facts.specs.declared.bypass.Bypass.{Bypass}
use Rattle.lsr_facts.specs.declared.facts.Facts.{Facts}
use Rattle.lsr_facts.specs.declared.key.Key.{Key}
use Rattle.lsr_facts.specs.declared.path_fact.PathFact.{PathFact}
use Rattle.lsr_facts.specs.declared.repair.Repair.{Repair}
use Rattle.lsr_facts.specs.declared.resv_fact.ResvFact.{ResvFact}
use Rattle.lsr_facts.specs.declared.router.Router.{Router}
use Rattle.bypass_shares.specs.Shares.{IsWithin, assigned_of, taken_of}
use Rattle.bypass_shares.specs.SumLaws.{assigned_of-among}
use Rattle.abstract_paths.specs.Tears.{leaves_by}
use Rattle.abstract_router.specs.Assigning.{capacity_in, fits_share, in_use_of, is_in_use, rate_in}
use Rattle.abstract_router.specs.Soundness.{IsHolding, IsOfCapacity, IsServed, IsSound}
use Rattle.abstract_router.specs.States.{State, is_repaired, with_facts, with_repair, with_repairs_where}
use Rattle.router_soundness.proofs.AssigningRepairs.{found_where}
use Rattle.router_soundness.specs.Drafted.{HasEnough}

-- what repaired LSPs are promised
abbrev repaired_shares : State → List (Key × Assignment)
repaired_shares s = where_key key_cmp (is_repaired s) s.assignments

-- Assignments are in order, each repair is served by what its LSP is promised, and that is enough; and no bypass promises
-- repaired LSPs more than it has.
abbrev pub AreServed : State → Type 0
AreServed s =
    T (is_sorted key_cmp s.assignments)
    × AllByRecursion (IsServed s) s.repairs
    × AllByRecursion (HasEnough s) s.repairs
    × IsWithin key_cmp (capacity_in s.facts.bypasses) (repaired_shares s)

-- ---- what some LSPs are promised

-- what is found among all, and passes a test of its key, is found among those that do
passes : (p : Key → Bool) (key : Key) (pairs : List (Key × Assignment)) (given : Assignment) → p key ≡ true → find key_cmp key pairs ≡ Some given → find key_cmp key (where_key key_cmp p pairs) ≡ Some given
passes p key pairs given is found =
    find-where_key key_cmp p key (λ k tie. ap p (sym (key_exact key k tie))) pairs ∙ ap (λ b. cond b (find key_cmp key pairs) None) is ∙ found

-- those of fewer LSPs take no more of a bypass
pub fewer_take : (number : ℕ) (p q : Key → Bool) → ((key : Key) → p key ≡ true → q key ≡ true) → (pairs : List (Key × Assignment)) → T (is_sorted key_cmp pairs) → assigned_of number (where_key key_cmp p pairs) ≤ assigned_of number (where_key key_cmp q pairs)
fewer_take number p q fewer pairs in_order =
    assigned_of-among key_cmp key_total number (where_key key_cmp p pairs) (where_key key_cmp q pairs) (is_sorted-where_key key_cmp p pairs in_order) (is_sorted-where_key key_cmp q pairs in_order)
    (λ key given found. let was = found_where p key given pairs found in passes q key pairs given (fewer key was.0) was.1)

-- and no more than all
some_take : (number : ℕ) (p : Key → Bool) (pairs : List (Key × Assignment)) → T (is_sorted key_cmp pairs) → assigned_of number (where_key key_cmp p pairs) ≤ assigned_of number pairs
some_take number p pairs in_order =
    assigned_of-among key_cmp key_total number (where_key key_cmp p pairs) pairs (is_sorted-where_key key_cmp p pairs in_order) in_order (λ key given found. (found_where p key given pairs found).1)

-- those that are all of other bypasses take none of this one
none_take : (number : ℕ) (p : Key → Bool) (pairs : List (Key × Assignment)) → AllByRecursion (λ pair. p pair.0 ≡ true → (pair.1.bypass == number) ≡ false) pairs → assigned_of number (where_key key_cmp p pairs) ≡ 0
none_take number p [] other = refl
none_take number p (pair ∷ pairs) other = by (p pair.0) other.0 (none_take number p pairs other.1)
  where
    by : (b : Bool) → (b ≡ true → (pair.1.bypass == number) ≡ false) → assigned_of number (where_key key_cmp p pairs) ≡ 0 → assigned_of number (cond b (pair ∷ where_key key_cmp p pairs) (where_key key_cmp p pairs)) ≡ 0
    by true apart rest =
        let own : taken_of number pair.1 ≡ 0 = ap (λ b. cond b pair.1.rate 0) (apart refl) in
        let front = sum_by-cons (λ (row : Key × Assignment). taken_of number row.1) pair (where_key key_cmp p pairs) in
        omega (arith, own, front, rest)
    by false apart rest = rest

-- ---- in a sound state

-- what a repaired LSP is promised is of its bypass, and enough
enough_of : (s : State) (repair : Key × Repair) → find key_cmp repair.0 s.repairs ≡ Some repair.1 → find key_cmp repair.0 s.resvs ≡ None → (o : Option Assignment)
    → IfSome o (λ given. IsHolding s (repair.0, given) × IsOfCapacity s.facts.bypasses (repair.0, given))
    → IfSome o (λ given. (rate_in repair.1.resv ≤ given.rate) × (repair.1.bypass ≡ given.bypass) × (1 ≤ capacity_in s.facts.bypasses given.bypass))
enough_of s repair found apart None is = tt
enough_of s repair found apart (Some given) (inl reserved, capable) = absurd (let e = sym apart ∙ reserved.1 in cc)
enough_of s repair found apart (Some given) (inr over, capable) =
    let same : over.0 ≡ repair.1 = let e = sym over.1 ∙ found in cc in
    (subst (λ (v : Repair). rate_in v.resv ≤ given.rate) same over.2, subst (λ (v : Repair). v.bypass ≡ given.bypass) same over.3, capable)

-- So it is in a sound state.
pub served_sound : (r : Router) (s : State) → IsSound r s → AreServed s
served_sound r s is = (
  is.assigned.in_order,
  is.assigned.served,
  all-both (λ repair. find key_cmp repair.0 s.repairs ≡ Some repair.1) (λ repair. find key_cmp repair.0 s.resvs ≡ None) (HasEnough s)
      (λ repair found apart. enough_of s repair found apart (find key_cmp repair.0 s.assignments)
      (find-all_row key_cmp key_exact (λ given. IsHolding s given × IsOfCapacity s.facts.bypasses given) repair.0 s.assignments
      (all-both (IsHolding s) (IsOfCapacity s.facts.bypasses) (λ given. IsHolding s given × IsOfCapacity s.facts.bypasses given) (λ given held capable. (held, capable)) s.assignments is.assigned.held is.assigned.capable)))
      s.repairs (all_found key_cmp key_total s.repairs is.repaired.in_order) is.repaired.apart,
  λ number. omega (arith, some_take number (is_repaired s) s.assignments is.assigned.in_order, is.assigned.within number),
)

-- What is in use is of repaired LSPs, so no bypass promises more of it than it has.
pub within_in_use : (s : State) → AreServed s → IsWithin key_cmp (capacity_in s.facts.bypasses) (in_use_of s)
within_in_use s is number = omega (arith, fewer_take number (is_in_use s) (is_repaired s) (λ key. used (find key_cmp key s.repairs) (find key_cmp key s.facts.paths)) s.assignments is.0, is.3 number)
  where
    used : (o : Option Repair) (path : Option PathFact) → option_map_or (λ repair. option_map_or (leaves_by repair.resv.link) path false) o false ≡ true → is_some o ≡ true
    used None path is = absurd (let e = is in cc)
    used (Some repair) path is = refl

-- ---- each change

-- an LSP that is found among repairs that pass a test is found among all
found_of_kept : (test : Key × Repair → Bool) (key : Key) (repairs : List (Key × Repair)) → is_some (find key_cmp key (filter test repairs)) ≡ true → is_some (find key_cmp key repairs) ≡ true
found_of_kept test key [] = λ found. found
found_of_kept test key (repair ∷ repairs) =
    elim (test repair) as (λ b. is_some (find key_cmp key (cond b (repair ∷ filter test repairs) (filter test repairs))) ≡ true → is_some (find key_cmp key (repair ∷ repairs)) ≡ true) [
      | true ↦ elim (eq_by_cmp key_cmp key repair.0) as (λ b. is_some (cond b (Some repair.1) (find key_cmp key (filter test repairs))) ≡ true → is_some (cond b (Some repair.1) (find key_cmp key repairs)) ≡ true) [
        | true ↦ λ found. refl
        | false ↦ λ found. found_of_kept test key repairs found
      ]
      | false ↦ λ found. elim (eq_by_cmp key_cmp key repair.0) as (λ b. is_some (cond b (Some repair.1) (find key_cmp key repairs)) ≡ true) [ true ↦ refl | false ↦ found_of_kept test key repairs found ]
    ]

-- Repairs that pass a test are kept, and the others go.
pub served_where : (s : State) (test : Key × Repair → Bool) → AreServed s → AreServed (with_repairs_where test s)
served_where s test is = (
  is.0,
  all-filter (IsServed s) test s.repairs is.1,
  all-filter (HasEnough s) test s.repairs is.2,
  λ number. omega (arith, fewer_take number (is_repaired (with_repairs_where test s)) (is_repaired s) (λ key. found_of_kept test key s.repairs) s.assignments is.0, is.3 number),
)

-- what an LSP is promised is enough for a repair that was renewed, where it has its share
pub enough_renewed : (s : State) (repair : Key × Repair) (fact : ResvFact) → HasEnough s repair → fits_share s repair.0 fact ≡ true → HasEnough s (repair.0, record repair.1 { resv = fact })
enough_renewed s repair fact = by (find key_cmp repair.0 s.assignments)
  where
    by : (o : Option Assignment) → IfSome o (λ given. (rate_in repair.1.resv ≤ given.rate) × (repair.1.bypass ≡ given.bypass) × (1 ≤ capacity_in s.facts.bypasses given.bypass))
        → option_map_or (λ given. nat_le (rate_in fact) given.rate) o true ≡ true
        → IfSome o (λ given. (rate_in fact ≤ given.rate) × (repair.1.bypass ≡ given.bypass) × (1 ≤ capacity_in s.facts.bypasses given.bypass))
    by None was share = tt
    by (Some given) was share = (leb-true (rate_in fact) given.rate share, was.1, was.2)

-- An LSP's repair is put in the place of another over the same bypass.
pub served_with_repair : (s : State) (key : Key) (old new : Repair) → find key_cmp key s.repairs ≡ Some old → old.bypass ≡ new.bypass → HasEnough s (key, new) → AreServed s → AreServed (with_repair key new s)
served_with_repair s key old new found same enough is = (
  is.0,
  all-put_row key_cmp (IsServed s) key new (λ k tied. subst (λ k. IsServed s (k, new)) (key_exact key k tied) served) served s.repairs is.1,
  all-put_row key_cmp (HasEnough s) key new (λ k tied. subst (λ k. HasEnough s (k, new)) (key_exact key k tied) enough) enough s.repairs is.2,
  λ number. omega (arith, fewer_take number (is_repaired (with_repair key new s)) (is_repaired s) still s.assignments is.0, is.3 number),
)
  where
    was : IsServed s (key, old)
    was = subst (λ o. IfSome o (λ v. IsServed s (key, v))) found (find-all_row key_cmp key_exact (IsServed s) key s.repairs is.1)

    served : IsServed s (key, new)
    served = subst (λ number. (capacity_in s.facts.bypasses number ≡ 0) ⊎ ((given : Assignment) × (find key_cmp key s.assignments ≡ Some given) × (given.bypass ≡ number))) same was

    still : (k : Key) → is_some (find key_cmp k (put key_cmp key new s.repairs)) ≡ true → is_some (find key_cmp k s.repairs) ≡ true
    still k there = by (eq_by_cmp key_cmp k key) refl (ap is_some (sym (find-put key_cmp key_total k key new s.repairs)) ∙ there)
      where
        by : (b : Bool) → eq_by_cmp key_cmp k key ≡ b → is_some (cond b (Some new) (find key_cmp k s.repairs)) ≡ true → is_some (find key_cmp k s.repairs) ≡ true
        by true tie there = subst (λ k. is_some (find key_cmp k s.repairs) ≡ true) (sym (key_exact k key (ties _ tie))) (ap is_some found)
        by false apart there = there

-- a bypass has the capacity that it had
abbrev pub IsAsBefore : List (ℕ × Bypass) → List (ℕ × Bypass) → ℕ → Type 0
IsAsBefore bypasses before number = capacity_in bypasses number ≡ capacity_in before number

-- what holds of the bypass of each repair holds of one that is the bypass of some,
of_some : (P : ℕ → Type 0) (number : ℕ) (repairs : List (Key × Repair)) → list_any (λ repair. repair.1.bypass == number) repairs ≡ true → AllByRecursion (λ repair. P repair.1.bypass) repairs → P number
of_some P number [] = λ some all. absurd (let e = some in cc)
of_some P number (repair ∷ repairs) =
    elim (repair.1.bypass == number) as (λ b. (repair.1.bypass == number) ≡ b → (b || list_any (λ repair. repair.1.bypass == number) repairs) ≡ true → P repair.1.bypass × AllByRecursion (λ repair. P repair.1.bypass) repairs → P number) [
      | true ↦ λ is some all. subst P (eqb-true repair.1.bypass number is) all.0
      | false ↦ λ is some all. of_some P number repairs some all.1
    ] refl

-- and one that is the bypass of none isn't that of any.
pub of_none : (number : ℕ) (repairs : List (Key × Repair)) → list_any (λ repair. repair.1.bypass == number) repairs ≡ false → AllByRecursion (λ repair. (repair.1.bypass == number) ≡ false) repairs
of_none number [] none = tt
of_none number (repair ∷ repairs) none = let parts = or_parts (repair.1.bypass == number) (list_any (λ repair. repair.1.bypass == number) repairs) none in (parts.0, of_none number repairs parts.1)

-- Other things are known beside repairs, but the bypass of each has the capacity that it had.
pub served_with_facts : (s : State) (facts : Facts) → AllByRecursion (λ repair. IsAsBefore facts.bypasses s.facts.bypasses repair.1.bypass) s.repairs → AreServed s → AreServed (with_facts facts s)
served_with_facts s facts same is = (
  is.0,
  all-both (λ repair. IsAsBefore facts.bypasses s.facts.bypasses repair.1.bypass) (IsServed s) (IsServed (with_facts facts s)) served s.repairs same is.1,
  all-both (λ repair. IsAsBefore facts.bypasses s.facts.bypasses repair.1.bypass) (HasEnough s) (HasEnough (with_facts facts s)) (λ repair. enough repair (find key_cmp repair.0 s.assignments)) s.repairs same is.2,
  λ number. within number (list_any (λ repair. repair.1.bypass == number) s.repairs) refl,
)
  where
    served : (repair : Key × Repair) → IsAsBefore facts.bypasses s.facts.bypasses repair.1.bypass → IsServed s repair → IsServed (with_facts facts s) repair
    served repair same (inl none) = inl (same ∙ none)
    served repair same (inr given) = inr given

    enough : (repair : Key × Repair) (o : Option Assignment) → IsAsBefore facts.bypasses s.facts.bypasses repair.1.bypass
        → IfSome o (λ given. (rate_in repair.1.resv ≤ given.rate) × (repair.1.bypass ≡ given.bypass) × (1 ≤ capacity_in s.facts.bypasses given.bypass))
        → IfSome o (λ given. (rate_in repair.1.resv ≤ given.rate) × (repair.1.bypass ≡ given.bypass) × (1 ≤ capacity_in facts.bypasses given.bypass))
    enough repair None same was = tt
    enough repair (Some given) same was = (was.0, was.1, subst (λ c. 1 ≤ c) (sym (subst (IsAsBefore facts.bypasses s.facts.bypasses) was.1 same)) was.2)

    -- a bypass over which no LSP is repaired promises repaired LSPs nothing
    other : (number : ℕ) → AllByRecursion (λ repair. (repair.1.bypass == number) ≡ false) s.repairs → (pair : Key × Assignment) → find key_cmp pair.0 s.assignments ≡ Some pair.1 → is_repaired s pair.0 ≡ true → (pair.1.bypass == number) ≡ false
    other number none pair found =
        by (find key_cmp pair.0 s.repairs)
        (find-all_row key_cmp key_exact (λ repair. HasEnough s repair × ((repair.1.bypass == number) ≡ false)) pair.0 s.repairs
        (all-both (HasEnough s) (λ repair. (repair.1.bypass == number) ≡ false) (λ repair. HasEnough s repair × ((repair.1.bypass == number) ≡ false)) (λ repair has apart. (has, apart)) s.repairs is.2 none))
      where
        by : (o : Option Repair) → IfSome o (λ repair. HasEnough s (pair.0, repair) × ((repair.bypass == number) ≡ false)) → is_some o ≡ true → (pair.1.bypass == number) ≡ false
        by None has there = absurd (let e = there in cc)
        by (Some repair) has there =
            let enough = subst (λ o. IfSome o (λ given. (rate_in repair.resv ≤ given.rate) × (repair.bypass ≡ given.bypass) × (1 ≤ capacity_in s.facts.bypasses given.bypass))) found has.0 in
            subst (λ n. (n == number) ≡ false) enough.1 has.1

    within : (number : ℕ) (some : Bool) → list_any (λ (repair : Key × Repair). repair.1.bypass == number) s.repairs ≡ some → assigned_of number (repaired_shares s) ≤ capacity_in facts.bypasses number
    within number true some = subst (λ c. assigned_of number (repaired_shares s) ≤ c) (sym (of_some (IsAsBefore facts.bypasses s.facts.bypasses) number s.repairs some same)) (is.3 number)
    within number false none =
        omega (
          arith,
          none_take number (is_repaired s) s.assignments
              (all-weaker (λ pair. find key_cmp pair.0 s.assignments ≡ Some pair.1) (λ pair. is_repaired s pair.0 ≡ true → (pair.1.bypass == number) ≡ false) (other number (of_none number s.repairs none)) s.assignments (all_found key_cmp key_total s.assignments is.0)),
        )

-- So it is with the same bypasses.
pub served_beside : (s : State) (facts : Facts) → facts.bypasses ≡ s.facts.bypasses → AreServed s → AreServed (with_facts facts s)
served_beside s facts same is = subst (λ bypasses. AreServed (with_facts (record s.facts { bypasses = bypasses }) s)) (sym same) is
