-- A moment takes something away from a path where the path's own moment has come.
use Rattle.std.proofs.Common.{◌≡◌, ℕ, min, ◌||◌, Bool, true, false, not, nat_le, nat_lt, List, [], ◌∷◌, Some, None, refl, sym, ap, ◌∙◌, arith}
use Rattle.std.specs.List.{list_any}
use Rattle.std.specs.declared.net.ipv4_addr.Ipv4Addr.{Ipv4Addr}
use Rattle.std.proofs.lemmas.Bool.Decides.{nat_tests}
use Rattle.lsr_facts.specs.Lifetimes.{begins_here, expires, lives_past}
use Rattle.lsr_facts.specs.declared.key.Key.{Key}
use Rattle.lsr_facts.specs.declared.path_fact.Origin.{Origin}
use Rattle.lsr_facts.specs.declared.path_fact.PathFact.{PathFact}
use Rattle.lsr_facts.specs.declared.path_fact.Role.{Role}
use Rattle.lsr_facts.specs.declared.path_fact.Role.TheVariants.{Head, Tail, Transit}
use Rattle.timer_wheel.specs.Due.{has_come}
use Rattle.path_state.specs.Expiries.{earliest, first_expiry, first_of}

module _ (moment : ℕ) where
  gone : Ipv4Addr × Origin → Bool
  gone origin = not (lives_past moment origin)

  -- what doesn't live past a moment has come by then
  come_or_lives : (expiry : ℕ) → nat_le expiry moment ≡ not (nat_lt moment expiry)
  come_or_lives expiry = grind (arith, nat_tests)

  least_come : (a b : ℕ) → nat_le (min a b) moment ≡ (nat_le a moment || nat_le b moment)
  least_come a b = grind (arith, nat_tests)

  or_assoc : (a b c : Bool) → ((a || b) || c) ≡ (a || (b || c))
  or_assoc true b c = refl
  or_assoc false b c = refl

  -- the least has come where one of them has
  earliest_come : (from : ℕ) (origins : List (Ipv4Addr × Origin)) → nat_le (earliest from origins) moment ≡ (nat_le from moment || list_any (λ origin. not (lives_past moment origin)) origins)
  earliest_come from [] = elim (nat_le from moment) as (λ b. b ≡ (b || false)) [ true ↦ refl | false ↦ refl ]
  earliest_come from (origin ∷ origins) =
      let others = list_any (λ origin. not (lives_past moment origin)) origins in
      earliest_come (min from origin.1.expiry) origins
      ∙ ap (λ b. b || others) (least_come from origin.1.expiry ∙ ap (λ b. nat_le from moment || b) (come_or_lives origin.1.expiry))
      ∙ or_assoc (nat_le from moment) (not (lives_past moment origin)) others

  -- where there is an origin, a path goes only when one of them has expired
  goes_with_one : (begins lives others_live others_gone : Bool) → (not (begins || (lives || others_live)) || (not lives || others_gone)) ≡ (not lives || others_gone)
  goes_with_one true lives others_live others_gone = refl
  goes_with_one false true others_live others_gone = refl
  goes_with_one false false true others_gone = refl
  goes_with_one false false false others_gone = refl

  -- the first moment of all has come at any
  first_has_come : true ≡ nat_le 0 moment
  first_has_come = grind (arith, nat_tests)

  none_left : (role : Role) → (not (begins_here role || false) || false) ≡ has_come moment (first_of role [])
  none_left Tail = first_has_come
  none_left Transit = first_has_come
  none_left Head = refl

  expires_of : (role : Role) (origins : List (Ipv4Addr × Origin)) → (not (begins_here role || list_any (lives_past moment) origins) || list_any (λ origin. not (lives_past moment origin)) origins) ≡ has_come moment (first_of role origins)
  expires_of role [] = none_left role
  expires_of role (origin ∷ origins) =
      let others = list_any (λ origin. not (lives_past moment origin)) origins in
      goes_with_one (begins_here role) (lives_past moment origin) (list_any (lives_past moment) origins) others
      ∙ sym (earliest_come origin.1.expiry origins ∙ ap (λ b. b || others) (come_or_lives origin.1.expiry))

  -- A moment takes something away from a path where that is due.
  pub expires_in_time : (path : Key × PathFact) → expires moment path ≡ has_come moment (first_expiry path.1)
  expires_in_time path = expires_of path.1.role path.1.origins
