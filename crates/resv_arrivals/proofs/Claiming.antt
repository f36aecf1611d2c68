-- The claims of reservations: they can be added up, and change as these do.
use Rattle.std.specs.Prelude.{◌≡◌, ℕ, ◌+◌, ◌^◌, ◌≤◌, true, cond, not, T, List, [], ◌∷◌, length, Some, None, is_some, Result, Ok, Err}
use Rattle.std.specs.FinMap.Entries.{find, is_sorted, is_sorted-where_key, length_without, where_key}
use Rattle.std.specs.List.{AllByRecursion}
use Rattle.std.specs.Option.{option_map}
use Rattle.std.specs.Ordering.{eq_by_cmp, is_eq}
use Rattle.std.specs.Result.{result_unwrap_or}
use Rattle.std.specs.declared.cmp.Ordering.TheVariants.{Less}
use Rattle.std.proofs.Common.{refl, sym, ap, subst, ◌∙◌, arith}
use Rattle.rsvp_bodies.specs.Traffic.{flowspec_rate}
use Rattle.rsvp_bodies.specs.declared.traffic_fault.TrafficFault.{TrafficFault}
use Rattle.sorted_rows.specs.ListLaws.{all-both}
use Rattle.sorted_rows.specs.RowsLaws.{all-below, find-removed_other, first, second}
use Rattle.lsr_facts.specs.OrderLaws.{key_total}
use Rattle.lsr_facts.specs.Orders.{key_cmp}
use Rattle.lsr_facts.specs.declared.key.Key.{Key}
use Rattle.lsr_facts.specs.declared.path_fact.PathFact.{PathFact}
use Rattle.lsr_facts.specs.declared.router.Router.{Router}
use Rattle.lsr_facts.specs.ClaimLaws.{flowspec_rate-most}
use Rattle.lsr_facts.specs.Claims.{claim_of}
use Rattle.lsr_facts.specs.Priorities.{holding_of}
use Rattle.lsr_facts.specs.declared.claim.Claim.{Claim}
use Rattle.lsr_facts.specs.declared.resv_fact.ResvFact.{ResvFact}
use Rattle.abstract_router.specs.ClaimsLaws.{find-claims, length-claims, sorted-claims}
use Rattle.abstract_router.specs.Preempting.{attr_at, claims_of}
use Rattle.admission.specs.Bandwidths.{AreRated}
use Rattle.resv_arrivals.specs.Progresses.{AreClaimed, IsReached, claims_at, resvs_at}
use Rattle.resv_arrivals.specs.declared.progress.Progress.{Progress}
use Rattle.abstract_router.specs.States.{State}
use Rattle.sorted_rows.specs.EditLaws.{is_sorted-edited}

-- no rate that is claimed is above the greatest
pub rate_most : (flowspec : List ℕ) → result_unwrap_or (flowspec_rate flowspec) 0 ≤ 2 ^ 50
rate_most flowspec = by (flowspec_rate flowspec) refl
  where
    by : (rate : Result ℕ TrafficFault) → flowspec_rate flowspec ≡ rate → result_unwrap_or rate 0 ≤ 2 ^ 50
    by (Ok n) is = flowspec_rate-most flowspec n is
    by (Err fault) is = omega arith

pub claims_rated : (paths : List (Key × PathFact)) (resvs : List (Key × ResvFact)) → AreRated (claims_of paths resvs)
unfolding claims_of
claims_rated paths [] = tt
claims_rated paths (v ∷ vs) = (rate_most v.1.flowspec, claims_rated paths vs)

-- by the reservation that it has, or hasn't
pub claimed_as : (paths : List (Key × PathFact)) (resvs : List (Key × ResvFact)) (key : Key) (fact : ResvFact) (claim : Claim) → find key_cmp key resvs ≡ Some fact → claim.holding ≡ holding_of (attr_at paths key) → find key_cmp key (claims_of paths resvs) ≡ Some (claim_of fact claim.holding)
claimed_as paths resvs key fact claim found kept =
    find-claims paths key resvs ∙ ap (option_map (λ f. claim_of f (holding_of (attr_at paths key)))) found ∙ ap (λ n. Some (claim_of fact n)) (sym kept)

pub claimed_none : (paths : List (Key × PathFact)) (resvs : List (Key × ResvFact)) (key : Key) → find key_cmp key resvs ≡ None → find key_cmp key (claims_of paths resvs) ≡ None
claimed_none paths resvs key none = find-claims paths key resvs ∙ ap (option_map (λ f. claim_of f (holding_of (attr_at paths key)))) none

-- Rows in order, each of whose keys is among those of others in order, are no more than these.
no_more : {X Y : Type 0} (xs : List (Key × X)) (ys : List (Key × Y)) → T (is_sorted key_cmp xs) → T (is_sorted key_cmp ys) → AllByRecursion (λ x. is_some (find key_cmp x.0 ys) ≡ true) xs → length xs ≤ length ys
no_more [] ys hx hy each = omega arith
no_more {X} {Y} (x ∷ xs) ys hx hy each =
    let left = where_key key_cmp (λ k. not (eq_by_cmp key_cmp x.0 k)) ys in
    let less = subst (λ b. cond b 1 0 + length left ≡ length ys) each.0 (length_without key_cmp key_total x.0 ys hy) in
    let others = all-both (λ (e : Key × X). key_cmp x.0 e.0 ≡ Less) (λ (e : Key × X). is_some (find key_cmp e.0 ys) ≡ true) (λ (e : Key × X). is_some (find key_cmp e.0 left) ≡ true)
    (λ e below found. ap is_some (find-removed_other key_cmp key_total e.0 x.0 ys (ap is_eq below)) ∙ found) xs (all-below key_cmp x.0 xs (first _ _ hx)) each.1 in
    let rest : length xs ≤ length left = no_more xs left (second _ _ hx) (is_sorted-where_key key_cmp (λ k. not (eq_by_cmp key_cmp x.0 k)) ys hy) others in
    omega (arith, less, rest)

module _ (r : Router) (s : State) (p : Progress) (is : IsReached r s p) where
  -- what is reserved is in order
  pub resvs_sorted : T (is_sorted key_cmp (resvs_at s p))
  resvs_sorted = is_sorted-edited key_cmp key_total p.edits s.resvs is.held.in_order

  pub claims_sorted : T (is_sorted key_cmp (claims_at s p))
  claims_sorted = sorted-claims s.facts.paths (resvs_at s p) resvs_sorted

  -- and there is no more of it than there are paths
  pub claims_few : length (claims_at s p) ≤ 1024
  claims_few = omega (arith, length-claims s.facts.paths (resvs_at s p), no_more (resvs_at s p) s.facts.paths resvs_sorted is.paths_in_order is.on_paths, is.few)

  -- So the claims that are kept can be added up.
  pub are_claimed : (claims : List (Key × Claim)) → claims ≡ claims_at s p → AreClaimed s p claims
  are_claimed claims same = record {
    claimed = same;
    sorted = subst (λ (rows : List (Key × Claim)). T (is_sorted key_cmp rows)) (sym same) claims_sorted;
    rated = subst AreRated (sym same) (claims_rated s.facts.paths (resvs_at s p));
    few = subst (λ (rows : List (Key × Claim)). length rows ≤ 1024) (sym same) claims_few;
  }
