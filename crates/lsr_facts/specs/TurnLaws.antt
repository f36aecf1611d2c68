-- Laws of who has its turn to give way, and of the shortest beginning that is enough.
use Rattle.std.specs.Prelude.{◌≡◌, ℕ, suc, zero, ◌≤◌, ◌<◌, ◌==◌, Bool, true, false, cond, List, [], ◌∷◌, ◌++◌, filter, map, reverse, length, take}
use Rattle.std.specs.List.{All, AllByRecursion, Contains, list_any}
use Rattle.std.specs.Ordering.{is_eq}
use Rattle.std.proofs.Common.{refl, sym, ap, subst, ◌∙◌, append_assoc, append-nil, arith, ⊎_elim}
use Rattle.std.proofs.lemmas.Bool.{cases_eq, eq-eqb}
use Rattle.std.proofs.lemmas.Cmp.{tied_itself}
use Rattle.std.proofs.lemmas.List.Elements.{All-append, All-filter, All-from_recursion, All-map, Contains-append_left, Contains-append_right}
use Rattle.std.proofs.lemmas.List.{get_or-map, length-map}
use Rattle.std.proofs.lemmas.List.Folds.{list_any_at}
use Rattle.std.proofs.lemmas.List.Sorted.{All-permutation, Contains-permutation, IsPermutation-reverse}
use Rattle.sorted_rows.specs.ListLaws.{all-both, all-filter, all-filter_passes}
use Rattle.lsr_facts.specs.OrderLaws.{key_total}
use Rattle.lsr_facts.specs.Orders.{key_cmp}
use Rattle.lsr_facts.specs.declared.key.Key.{Key}
use Rattle.lsr_facts.specs.Admission.{by_worst, can_give_way, held_at, in_turn, shortest}
use Rattle.lsr_facts.specs.declared.claim.Claim.{Claim}
use Rattle.lsr_facts.specs.declared.claim.Request.{Request}
use Rattle.lsr_facts.specs.SumLaws.{Contains-filter}

-- those of this holding priority and of the better ones, the worst first
abbrev down_from : ℕ → List (Key × Claim) → List (Key × Claim)
down_from zero claims = held_at 0 claims
down_from (suc holding) claims = held_at (suc holding) claims ++ down_from holding claims

-- those of each priority, the worst first
by_worst-is : (claims : List (Key × Claim)) → by_worst claims ≡ down_from 7 claims
by_worst-is claims = simp append_assoc

-- what holds of each claim holds of each of a holding priority
all-held_at : (P : Key × Claim → Type 0) (holding : ℕ) (claims : List (Key × Claim)) → All P claims → All P (held_at holding claims)
all-held_at P holding claims each =
    let kept = filter (λ claim. claim.1.holding == holding) claims in
    All-permutation P kept (reverse kept) (IsPermutation-reverse kept) (All-filter (λ claim. claim.1.holding == holding) P claims each)

-- and of each of that one and of the better ones
all-down_from : (P : Key × Claim → Type 0) (holding : ℕ) (claims : List (Key × Claim)) → All P claims → All P (down_from holding claims)
all-down_from P zero claims each = all-held_at P 0 claims each
all-down_from P (suc holding) claims each = All-append P (held_at (suc holding) claims) (down_from holding claims) (all-held_at P (suc holding) claims each) (all-down_from P holding claims each)

-- What holds of the key of each claim that can give way holds of each that has its turn.
pub all-in_turn : (P : Key → Type 0) (request : Request) (claims : List (Key × Claim)) → AllByRecursion (λ claim. can_give_way request claim ≡ true → P claim.0) claims → All P (in_turn request claims)
all-in_turn P request claims each =
    let can = can_give_way request in
    let able = filter (can_give_way request) claims in
    let shown : AllByRecursion (λ claim. P claim.0) able = all-both (λ claim. can claim ≡ true → P claim.0) (λ claim. can claim ≡ true) (λ claim. P claim.0) (λ claim shows passes. shows passes) able (all-filter (λ claim. can claim ≡ true → P claim.0) can claims each) (all-filter_passes (λ claim. can claim ≡ true) can (λ claim passes. passes) claims) in
    All-map P (λ claim. claim.0) (by_worst able) (subst (λ turns. All (λ claim. P claim.0) turns) (sym (by_worst-is able)) (all-down_from (λ claim. P claim.0) 7 able (All-from_recursion (λ claim. P claim.0) able shown)))

-- a claim is among those of its holding priority
Contains-held_at : (claim : Key × Claim) (claims : List (Key × Claim)) → Contains claims claim → Contains (held_at claim.1.holding claims) claim
Contains-held_at claim claims has =
    let kept = filter (λ (other : Key × Claim). other.1.holding == claim.1.holding) claims in
    Contains-permutation kept (reverse kept) claim (IsPermutation-reverse kept) (Contains-filter (λ other. other.1.holding == claim.1.holding) claims claim (eq-eqb claim.1.holding claim.1.holding refl) has)

-- and so among those of that one and of the better ones
Contains-down_from : (worst holding : ℕ) (claim : Key × Claim) (claims : List (Key × Claim)) → holding ≤ worst → Contains (held_at holding claims) claim → Contains (down_from worst claims) claim
Contains-down_from zero holding claim claims low has = subst (λ p. Contains (held_at p claims) claim) (omega arith) has
Contains-down_from (suc worst) holding claim claims low has =
    ⊎_elim (λ is. Contains-append_left (held_at (suc worst) claims) (down_from worst claims) claim (subst (λ p. Contains (held_at p claims) claim) is has))
    (λ other. Contains-append_right (held_at (suc worst) claims) (down_from worst claims) claim (Contains-down_from worst holding claim claims (omega (arith, other)) has))
    (cases_eq holding (suc worst))

-- a test that a key passes finds one among the keys
any_of_keys : (test : Key → Bool) (claim : Key × Claim) → test claim.0 ≡ true → (claims : List (Key × Claim)) → Contains claims claim → list_any test (map (λ claim. claim.0) claims) ≡ true
any_of_keys test claim passes claims has =
    list_any_at test (map (λ row. row.0) claims) has.0 claim.0 (omega (arith, has.1, length-map claims (λ (row : Key × Claim). row.0)))
    (ap test (get_or-map (λ (row : Key × Claim). row.0) claims has.0 claim claim.0 has.1 ∙ ap (λ (row : Key × Claim). row.0) has.2) ∙ passes)

-- Each who can give way has its turn, if it is kept at a priority that there is.
pub has_turn : (request : Request) (claim : Key × Claim) (claims : List (Key × Claim)) → Contains claims claim → can_give_way request claim ≡ true → claim.1.holding ≤ 7 → list_any (λ gone. is_eq (key_cmp gone claim.0)) (in_turn request claims) ≡ true
has_turn request claim claims has can low =
    let able = filter (can_give_way request) claims in
    any_of_keys (λ gone. is_eq (key_cmp gone claim.0)) claim (ap is_eq (tied_itself key_total claim.0)) (by_worst able)
    (subst (λ turns. Contains turns claim) (sym (by_worst-is able)) (Contains-down_from 7 claim.1.holding claim able low (Contains-held_at claim able (Contains-filter (can_give_way request) claims claim can has))))

module _ (enough : List Key → Bool) where
  -- where all are enough, the shortest that is enough is
  pub shortest-is_enough : (gone rest : List Key) → enough (gone ++ rest) ≡ true → enough (shortest enough gone rest) ≡ true
  shortest-is_enough gone [] all = ap enough (sym (append-nil gone)) ∙ all
  shortest-is_enough gone (next ∷ rest) all =
      elim (enough gone) as (λ b. enough gone ≡ b → enough (cond b gone (shortest enough (gone ++ next ∷ []) rest)) ≡ true) [
        | true ↦ λ is. is
        | false ↦ λ is. shortest-is_enough (gone ++ next ∷ []) rest (ap enough (append_assoc gone (next ∷ []) rest) ∙ all)
      ] refl

  -- none shorter is enough, one more being needed
  shorter : (gone : List Key) (next : Key) (rest : List Key) (n : ℕ) → enough gone ≡ false → ((k : ℕ) → k < n → enough ((gone ++ next ∷ []) ++ take k rest) ≡ false) → (k : ℕ) → k < suc n → enough (gone ++ take k (next ∷ rest)) ≡ false
  shorter gone next rest n is none zero below = ap enough (append-nil gone) ∙ is
  shorter gone next rest n is none (suc k) below = ap enough (sym (append_assoc gone (next ∷ []) (take k rest))) ∙ none k (omega arith)

  -- Where those are enough, nobody else goes.
  pub shortest-none : (gone rest : List Key) → enough gone ≡ true → shortest enough gone rest ≡ gone
  shortest-none gone [] is = refl
  shortest-none gone (next ∷ rest) is = ap (λ b. cond b gone (shortest enough (gone ++ next ∷ []) rest)) is

  -- It is those and a beginning of the rest, and with no shorter one they are enough.
  pub shortest-is : (gone rest : List Key) → (n : ℕ) × (n ≤ length rest) × (shortest enough gone rest ≡ gone ++ take n rest) × ((k : ℕ) → k < n → enough (gone ++ take k rest) ≡ false)
  shortest-is gone [] = (0, omega arith, sym (append-nil gone), λ k below. absurd (omega arith))
  shortest-is gone (next ∷ rest) =
      elim (enough gone) as (λ b. enough gone ≡ b → (n : ℕ) × (n ≤ suc (length rest)) × (cond b gone (shortest enough (gone ++ next ∷ []) rest) ≡ gone ++ take n (next ∷ rest)) × ((k : ℕ) → k < n → enough (gone ++ take k (next ∷ rest)) ≡ false)) [
        | true ↦ λ is. (0, omega arith, sym (append-nil gone), λ k below. absurd (omega arith))
        | false ↦ λ is.
            let more = shortest-is (gone ++ next ∷ []) rest in
            (suc more.0, omega (arith, more.1), more.2 ∙ append_assoc gone (next ∷ []) (take more.0 rest), shorter gone next rest more.0 is more.3)
      ] refl
