-- By these edits LSPs are promised what they are promised anew.
use Rattle.std.specs.Prelude.{◌≡◌, ◌≤◌, ◌<◌, ◌&&◌, ◌||◌, ◌==◌, ℕ, not, Bool, true, false, cond, if◌then◌else◌, T, List, [], ◌∷◌, filter, Option, Some, None, is_some}
use Rattle.std.specs.FinMap.Entries.{find, find-where_key, is_sorted, same_entries, where_key}
use Rattle.std.specs.List.{AllByRecursion, sum_by}
use Rattle.std.specs.Option.{option_and_then, option_map_or, option_or}
use Rattle.std.proofs.Common.{refl, sym, ap, arith, ◌∙◌, inl, inr}
use Rattle.std.proofs.lemmas.Bool.{eqb-true, lt-ltb}
use Rattle.sorted_rows.specs.ListLaws.{all-weaker}
use Rattle.lsr_facts.specs.SumLaws.{sum_by-filter-le}
use Rattle.lsr_facts.specs.declared.path_fact.PathFact.{PathFact}
use Rattle.lsr_facts.specs.declared.repair.Repair.{Repair}
use Rattle.lsr_facts.specs.declared.router.LabelRange.{LabelRange}
use Rattle.lsr_facts.specs.declared.router.Router.{Router}
use Rattle.bypass_shares.specs.Shares.{IsWithin, taken_of}
use Rattle.label_space.specs.Rests.{AreRestingOf, resting_past}
use Rattle.abstract_paths.specs.Tears.{leaves_by}
use Rattle.abstract_router.specs.Assigning.{assignments_left, capacity_in, in_use_of, is_in_use}
use Rattle.abstract_router.specs.Repairing.{repaired, repairs_left}
use Rattle.abstract_router.specs.Soundness.{IsHolding}
use Rattle.abstract_router.specs.States.{State, is_held, is_one_of, is_repaired, is_reserved}
use Rattle.abstract_router.specs.Steps.{given_up, promised, resvs_left, taken_over}
use Rattle.sorted_rows.specs.EditLaws.{find-edited, is_sorted-edited}
use Rattle.sorted_rows.specs.Edits as rows
use Rattle.lsr_facts.specs.OrderLaws.{key_exact, key_total}
use Rattle.lsr_facts.specs.Orders.{key_cmp}
use Rattle.lsr_facts.specs.declared.assignment.Assignment.{Assignment}
use Rattle.lsr_facts.specs.declared.key.Key.{Key}
use Rattle.state_settling.specs.Promises.{promise_becomes, promise_edit}

-- what becomes of a promise makes of it what it is from now on
becomes : (was now : Option Assignment) → rows.over (promise_becomes was now) was ≡ now
becomes None None = refl
becomes None (Some now) = refl
becomes (Some was) None = refl
becomes (Some was) (Some now) = by (was.bypass == now.bypass) (was.rate == now.rate) refl refl
  where
    by : (a b : Bool) → (was.bypass == now.bypass) ≡ a → (was.rate == now.rate) ≡ b → rows.over (if a && b then None else Some (Some now)) (Some was) ≡ Some now
    by true true bypass rate = λ i. Some (record { bypass = eqb-true was.bypass now.bypass bypass i; rate = eqb-true was.rate now.rate rate i })
    by true false bypass rate = refl
    by false b bypass rate = refl

-- where all are asked that were promised anything before or are from now on, all are found
asked : (was now : Option Assignment) → option_or (option_and_then (λ row. promise_becomes was now) now) (option_or (option_and_then (λ row. promise_becomes was now) was) None) ≡ promise_becomes was now
asked None None = refl
asked None (Some now) = refl
asked (Some was) None = refl
asked (Some was) (Some now) = same (promise_becomes (Some was) (Some now))
  where
    same : (o : Option (Option Assignment)) → option_or o (option_or o None) ≡ o
    same None = refl
    same (Some x) = refl

-- The edits of all these lead to what is promised from now on.
pub promised_by : (before now : List (Key × Assignment)) (known edits : List (Key × Option Assignment)) → T (is_sorted key_cmp before) → T (is_sorted key_cmp now)
    → ((q : Key) → find key_cmp q known ≡ option_or (option_and_then (λ row. promise_edit before now q) (find key_cmp q before)) None)
    → ((q : Key) → find key_cmp q edits ≡ option_or (option_and_then (λ row. promise_edit before now q) (find key_cmp q now)) (find key_cmp q known))
    → rows.edited key_cmp edits before ≡ now
promised_by before now known edits g h first all =
    same_entries key_cmp key_total key_exact (rows.edited key_cmp edits before) now (is_sorted-edited key_cmp key_total edits before g) h (λ q.
    find-edited key_cmp key_total q edits before
    ∙ ap (λ edit. rows.over edit (find key_cmp q before)) (all q ∙ ap (option_or (option_and_then (λ row. promise_edit before now q) (find key_cmp q now))) (first q) ∙ asked (find key_cmp q before) (find key_cmp q now))
    ∙ becomes (find key_cmp q before) (find key_cmp q now))

-- what passes the first test passes the second: so it is enough to look among what passes that
filter_narrower : {X : Type 0} (p q : X → Bool) (xs : List X) → ((x : X) → p x ≡ true → q x ≡ true) → filter p (filter q xs) ≡ filter p xs
filter_narrower p q [] h = refl
filter_narrower p q (x ∷ xs) h = by (p x) (q x) refl refl (filter_narrower p q xs h)
  where
    by : (a b : Bool) → p x ≡ a → q x ≡ b → filter p (filter q xs) ≡ filter p xs → filter p (cond b (x ∷ filter q xs) (filter q xs)) ≡ cond a (x ∷ filter p xs) (filter p xs)
    by a true is_a is_b rest = (λ i. cond (is_a i) (x ∷ filter p (filter q xs)) (filter p (filter q xs))) ∙ (λ i. cond a (x ∷ rest i) (rest i))
    by true false is_a is_b rest = absurd (let e = sym is_b ∙ h x is_a in cc)
    by false false is_a is_b rest = rest

-- a path that is left when others went was there before
leaves_left : (test : PathFact → Bool) (p : Key → Bool) (key : Key) (paths : List (Key × PathFact)) → option_map_or test (find key_cmp key (where_key key_cmp p paths)) false ≡ true → option_map_or test (find key_cmp key paths) false ≡ true
leaves_left test p key paths left = by (p key) (sym (ap (λ o. option_map_or test o false) (find-where_key key_cmp p key (λ x tied. ap p (sym (key_exact key x tied))) paths)) ∙ left)
  where
    by : (b : Bool) → option_map_or test (cond b (find key_cmp key paths) None) false ≡ true → option_map_or test (find key_cmp key paths) false ≡ true
    by true left = left
    by false left = absurd (let e = left in cc)

-- Where tunnels go over to new LSPs, no more is in use than before: so it is within the capacities of bypasses still.
pub within-taken_over : (r : Router) (s : State) → IsWithin key_cmp (capacity_in s.facts.bypasses) (in_use_of s) → IsWithin key_cmp (capacity_in (taken_over r s).facts.bypasses) (in_use_of (taken_over r s))
unfolding taken_over
within-taken_over r s within number =
    let after = taken_over r s in
    let takes = λ (pair : Key × Assignment). taken_of number pair.1 in
    let narrower = filter_narrower (λ (row : Key × Assignment). is_in_use after row.0) (λ (row : Key × Assignment). is_in_use s row.0) s.assignments (λ row used. used_before row.0 used) in
    omega (arith, ap (sum_by takes) (sym narrower), sum_by-filter-le takes (λ row. is_in_use after row.0) (in_use_of s), within number)
  where
    used_before : (key : Key) → is_in_use (taken_over r s) key ≡ true → is_in_use s key ≡ true
    used_before key used = by (find key_cmp key s.repairs) used
      where
        by : (repair : Option Repair) → option_map_or (λ repair. option_map_or (leaves_by repair.resv.link) (find key_cmp key (taken_over r s).facts.paths) false) repair false ≡ true
            → option_map_or (λ repair. option_map_or (leaves_by repair.resv.link) (find key_cmp key s.facts.paths) false) repair false ≡ true
        by None used = used
        by (Some repair) used = leaves_left (leaves_by repair.resv.link) (λ k. not (is_one_of (given_up r s) k)) key s.facts.paths used

-- Before labels are given, labels are as they were, and what rests is; and what was promised before it is promised anew.
module _ (r : Router) (s : State) where
  -- what stands after the other stages
  abbrev stood : State
  stood = assignments_left (repairs_left r (resvs_left (repaired r (promised r s))))

  pub labels-stood : stood.labels ≡ s.labels
  unfolding repairs_left repaired taken_over
  labels-stood = refl

  pub resting-stood : stood.resting ≡ s.resting
  unfolding repairs_left repaired taken_over
  resting-stood = refl

  pub moment-stood : stood.facts.moment ≡ s.facts.moment
  unfolding repairs_left repaired taken_over
  moment-stood = refl

  pub assignments-taken_over : (taken_over r s).assignments ≡ s.assignments
  unfolding taken_over
  assignments-taken_over = refl

  pub bypasses-taken_over : (taken_over r s).facts.bypasses ≡ s.facts.bypasses
  unfolding taken_over
  bypasses-taken_over = refl

-- what is promised in a sound state is held
pub are_held : (s : State) → AllByRecursion (IsHolding s) s.assignments → AllByRecursion (λ given. is_held s given.0 ≡ true) s.assignments
are_held s holding = all-weaker (IsHolding s) (λ given. is_held s given.0 ≡ true) held s.assignments holding
  where
    held : (given : Key × Assignment) → IsHolding s given → is_held s given.0 ≡ true
    held given (inl resv) = ap (λ o. is_some o || is_repaired s given.0) resv.1
    held given (inr repair) = ap (λ o. is_reserved s given.0 || is_some o) repair.1 ∙ or_true (is_reserved s given.0)
      where
        or_true : (b : Bool) → (b || true) ≡ true
        or_true true = refl
        or_true false = refl

-- what rests in a sound state rests past the moment
pub rest_past : (range : LabelRange) (moment : ℕ) (labels : List (Key × ℕ)) (resting : List (ℕ × ℕ)) → AreRestingOf range moment labels resting → resting_past moment resting ≡ resting
rest_past range moment labels resting are = by resting are.each
  where
    by : (rows : List (ℕ × ℕ)) → AllByRecursion (λ row. (range.first ≤ row.0) × (row.0 ≤ range.last) × (moment < row.1)) rows → resting_past moment rows ≡ rows
    by [] each = refl
    by (row ∷ rows) each = (λ i. cond (lt-ltb moment row.1 each.0.2 i) (row ∷ resting_past moment rows) (resting_past moment rows)) ∙ ap (λ more. row ∷ more) (by rows each.1)
