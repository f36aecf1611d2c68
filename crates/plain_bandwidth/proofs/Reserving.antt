-- What is reserved of links, link by link.
use Rattle.std.specs.Prelude.{◌≡◌, ◌↔◌, ◌≤◌, ◌==◌, ◌&&◌, ◌+◌, ◌^◌, ℕ, nat_le, not, Bool, true, false, cond, T, List, [], ◌∷◌, filter, length, find as find_first, Option, Some, None, IfSome, is_some, Result, Ok, Err}
use Rattle.std.specs.FinMap.Entries.{below_all, find, is_sorted, is_sorted-where_key, length_without, where_key}
use Rattle.std.specs.List.{AllByRecursion}
use Rattle.std.specs.Option.{option_map_or}
use Rattle.std.specs.Ordering.{eq_by_cmp, is_eq, nat_cmp}
use Rattle.std.specs.Result.{result_unwrap_or}
use Rattle.std.specs.declared.cmp.Ordering.TheVariants.{Less}
use Rattle.std.proofs.Common.{refl, sym, ap, subst, ◌∙◌, arith}
use Rattle.std.proofs.lemmas.Bool.{eqb-true}
use Rattle.std.proofs.lemmas.Cmp.{nat_cmp_total}
use Rattle.std.proofs.lemmas.Map.Lookups.{exact_unsigned}
use Rattle.rsvp_bodies.specs.Traffic.{flowspec_rate}
use Rattle.rsvp_bodies.specs.declared.traffic_fault.TrafficFault.{TrafficFault}
use Rattle.sorted_rows.specs.ListLaws.{all-both, all-weaker}
use Rattle.sorted_rows.specs.Rows.{keys_of}
use Rattle.sorted_rows.specs.RowsLaws.{all-below, all-from_find, all_found, find-all_row, find-removed_other, first, is_some-find_both, put-found, second}
use Rattle.lsr_facts.specs.Admission.{granted}
use Rattle.lsr_facts.specs.ClaimLaws.{flowspec_rate-most}
use Rattle.lsr_facts.specs.Claims.{counts, rate_of_all, reserved_of}
use Rattle.lsr_facts.specs.OrderLaws.{key_total}
use Rattle.lsr_facts.specs.Orders.{key_cmp}
use Rattle.lsr_facts.specs.Routers.{HasLink, link_at}
use Rattle.lsr_facts.specs.declared.claim.Claim.{Claim}
use Rattle.lsr_facts.specs.declared.key.Key.{Key}
use Rattle.lsr_facts.specs.declared.path_fact.PathFact.{PathFact}
use Rattle.lsr_facts.specs.declared.resv_fact.ResvFact.{ResvFact}
use Rattle.lsr_facts.specs.declared.router.Link.{Link}
use Rattle.lsr_facts.specs.declared.router.Router.{Router}
use Rattle.abstract_paths.specs.Places.{is_up}
use Rattle.abstract_paths.specs.RowLaws.{find-holds, find-passes}
use Rattle.abstract_paths.specs.Soundness.{IsStanding}
use Rattle.abstract_paths.specs.Tears.{leaves_by}
use Rattle.abstract_router.specs.ClaimsLaws.{length-claims}
use Rattle.abstract_router.specs.Preempting.{claims_of, limit_of}
use Rattle.abstract_router.specs.Standing.{stands}
use Rattle.abstract_router.specs.States.{State}
use Rattle.admission.specs.Bandwidths.{AreRated}
use Rattle.plain_bandwidth.specs.Limits.{AreWithinLimits, IsWithinAt}

-- no rate that is claimed is above the greatest
rate_most : (rate : Result ℕ TrafficFault) (flowspec : List ℕ) → flowspec_rate flowspec ≡ rate → result_unwrap_or rate 0 ≤ 2 ^ 50
rate_most (Ok n) flowspec is = flowspec_rate-most flowspec n is
rate_most (Err fault) flowspec is = omega arith

pub are_rated : (paths : List (Key × PathFact)) (resvs : List (Key × ResvFact)) → AreRated (claims_of paths resvs)
unfolding claims_of
are_rated paths [] = tt
are_rated paths (resv ∷ resvs) = (rate_most (flowspec_rate resv.1.flowspec) resv.1.flowspec refl, are_rated paths resvs)

-- Rows in order, each of whose keys is among those of others in order, are no more than these.
no_more : {X Y : Type 0} (xs : List (Key × X)) (ys : List (Key × Y)) → T (is_sorted key_cmp xs) → T (is_sorted key_cmp ys) → AllByRecursion (λ x. is_some (find key_cmp x.0 ys) ≡ true) xs → length xs ≤ length ys
no_more [] ys hx hy each = omega arith
no_more {X} {Y} (x ∷ xs) ys hx hy each =
    let left = where_key key_cmp (λ k. not (eq_by_cmp key_cmp x.0 k)) ys in
    let less = subst (λ b. cond b 1 0 + length left ≡ length ys) each.0 (length_without key_cmp key_total x.0 ys hy) in
    let others = all-both (λ (e : Key × X). key_cmp x.0 e.0 ≡ Less) (λ (e : Key × X). is_some (find key_cmp e.0 ys) ≡ true) (λ (e : Key × X). is_some (find key_cmp e.0 left) ≡ true)
    (λ e below found. ap is_some (find-removed_other key_cmp key_total e.0 x.0 ys (ap is_eq below)) ∙ found) xs (all-below key_cmp x.0 xs (first _ _ hx)) each.1 in
    let sorted : T (is_sorted key_cmp xs) = second (below_all key_cmp x.0 xs) (is_sorted key_cmp xs) hx in
    let rest : length xs ≤ length left = no_more xs left sorted (is_sorted-where_key key_cmp (λ k. not (eq_by_cmp key_cmp x.0 k)) ys hy) others in
    omega (arith, less, rest)

-- a reservation stands on a path that is known
known_by : (is_up : Bool) (test : PathFact → Bool) (path : Option PathFact) → (is_up && option_map_or test path false) ≡ true → is_some path ≡ true
known_by is_up test (Some path) passes = refl
known_by true test None passes = absurd (let e = passes in cc)
known_by false test None passes = absurd (let e = passes in cc)

-- and on a link that is up
up_by : (is_up : Bool) (test : PathFact → Bool) (path : Option PathFact) → (is_up && option_map_or test path false) ≡ true → is_up ≡ true
up_by true test path passes = refl
up_by false test path passes = absurd (let e = passes in cc)

-- Reservations that stand, each on its LSP's path, are no more than there may be LSPs.
pub are_few : (r : Router) (s : State) → IsStanding r s.facts → T (is_sorted key_cmp s.resvs) → AllByRecursion (λ resv. stands s.facts resv ≡ true) s.resvs → length (claims_of s.facts.paths s.resvs) ≤ 1024
are_few r s is sorted standing =
    let known = all-weaker (λ resv. stands s.facts resv ≡ true) (λ (resv : Key × ResvFact). is_some (find key_cmp resv.0 s.facts.paths) ≡ true)
    (λ resv stands. known_by (is_up s.facts.up resv.1.link) (leaves_by resv.1.link) (find key_cmp resv.0 s.facts.paths) stands) s.resvs standing in
    omega (arith, length-claims s.facts.paths s.resvs, no_more s.resvs s.facts.paths sorted is.paths.in_order known, is.paths.few)

-- what is known of links is known of the router's alone
up_some : (o : Option Bool) → option_map_or (λ is. is) o false ≡ true → is_some o ≡ true
up_some (Some b) is = refl
up_some None is = absurd (let e = is in cc)

has_up : (r : Router) (up : List (ℕ × Bool)) (number : ℕ) → keys_of up ≡ keys_of r.links → is_up up number ≡ true → HasLink r number
unfolding is_up link_at
has_up r up number same is = sym (is_some-find_both nat_cmp number up r.links same) ∙ up_some (find nat_cmp number up) is

-- So what reservations that stand claim is of links of the router.
pub on_links : (r : Router) (s : State) → IsStanding r s.facts → (resvs : List (Key × ResvFact)) → AllByRecursion (λ resv. stands s.facts resv ≡ true) resvs → AllByRecursion (λ (claim : Key × Claim). HasLink r claim.1.link) (claims_of s.facts.paths resvs)
unfolding claims_of
on_links r s is [] standing = tt
on_links r s is (resv ∷ resvs) standing =
    (has_up r s.facts.up resv.1.link is.links (up_by (is_up s.facts.up resv.1.link) (leaves_by resv.1.link) (find key_cmp resv.0 s.facts.paths) standing.0), on_links r s is resvs standing.1)

-- where no claim is on a link none counts there
none_counts : (link priority : ℕ) (claims : List (Key × Claim)) → AllByRecursion (λ (claim : Key × Claim). (claim.1.link == link) ≡ false) claims → filter (counts link priority) claims ≡ []
none_counts link priority [] none = refl
none_counts link priority (claim ∷ claims) none =
    ap (λ b. cond (b && nat_le claim.1.holding priority) (claim ∷ filter (counts link priority) claims) (filter (counts link priority) claims)) none.0 ∙ none_counts link priority claims none.1

-- and nothing is reserved
pub none_reserved : (link priority : ℕ) (claims : List (Key × Claim)) → AllByRecursion (λ (claim : Key × Claim). (claim.1.link == link) ≡ false) claims → reserved_of link priority claims ≡ 0
unfolding reserved_of rate_of_all
none_reserved link priority claims none = ap rate_of_all (none_counts link priority claims none)

-- where none is found on a link, none is on it
none_on : (test : Key × Claim → Bool) (claims : List (Key × Claim)) → find_first test claims ≡ None → AllByRecursion (λ claim. test claim ≡ false) claims
none_on test [] is = tt
none_on test (claim ∷ claims) is =
    elim (test claim) as (λ b. test claim ≡ b → cond b (Some claim) (find_first test claims) ≡ None → AllByRecursion (λ c. test c ≡ false) (claim ∷ claims)) [
      | true ↦ λ at none. absurd (let e = none in cc)
      | false ↦ λ at none. (at, none_on test claims none)
    ] refl is

-- So nothing is reserved on a link on which no claim is found.
pub none_found : (link priority : ℕ) (claims : List (Key × Claim)) → find_first (λ claim. claim.1.link == link) claims ≡ None → reserved_of link priority claims ≡ 0
none_found link priority claims is = none_reserved link priority claims (none_on (λ claim. claim.1.link == link) claims is)

-- What is found on a link is claimed already: to grant it changes nothing.
pub granted_again : (claims : List (Key × Claim)) (link : ℕ) (row : Key × Claim) (setup : ℕ) → T (is_sorted key_cmp claims) → find_first (λ claim. claim.1.link == link) claims ≡ Some row → granted (record { key = row.0; claim = row.1; setup = setup }) claims ≡ claims
granted_again claims link row setup sorted is =
    let at : find key_cmp row.0 claims ≡ Some row.1 = subst (λ (o : Option (Key × Claim)). IfSome o (λ c. find key_cmp c.0 claims ≡ Some c.1)) is (find-holds (λ (c : Key × Claim). find key_cmp c.0 claims ≡ Some c.1) (λ claim. claim.1.link == link) claims (all_found key_cmp key_total claims sorted)) in
    put-found key_cmp key_total row.0 row.1 claims sorted at

-- It is on that link,
pub found_on : (claims : List (Key × Claim)) (link : ℕ) (row : Key × Claim) → find_first (λ claim. claim.1.link == link) claims ≡ Some row → row.1.link ≡ link
found_on claims link row is = eqb-true row.1.link link (subst (λ (o : Option (Key × Claim)). IfSome o (λ c. (c.1.link == link) ≡ true)) is (find-passes (λ claim. claim.1.link == link) claims))

-- and its rate isn't above the greatest.
pub found_rated : (claims : List (Key × Claim)) (link : ℕ) (row : Key × Claim) → AreRated claims → find_first (λ claim. claim.1.link == link) claims ≡ Some row → row.1.rate ≤ 2 ^ 50
found_rated claims link row rated is = subst (λ (o : Option (Key × Claim)). IfSome o (λ c. c.1.rate ≤ 2 ^ 50)) is (find-holds (λ (c : Key × Claim). c.1.rate ≤ 2 ^ 50) (λ claim. claim.1.link == link) claims rated)

-- a link that the router has is another than one that it doesn't have
not_there : (r : Router) (link other : ℕ) → find nat_cmp link r.links ≡ None → HasLink r other → (b : Bool) → (other == link) ≡ b → b ≡ false
unfolding link_at
not_there r link other none has true is =
    let there : is_some (find nat_cmp link r.links) ≡ true = ap (λ n. is_some (find nat_cmp n r.links)) (sym (eqb-true other link is)) ∙ has in
    absurd (let e = sym there ∙ ap is_some none in cc)
not_there r link other none has false is = refl

-- the limit of a link that is there, or isn't
within_at : (r : Router) (claims : List (Key × Claim)) → AllByRecursion (λ (claim : Key × Claim). HasLink r claim.1.link) claims → (link priority : ℕ) → priority ≤ 7 → (o : Option Link) → find nat_cmp link r.links ≡ o → IfSome o (λ l. IsWithinAt claims (link, l)) → reserved_of link priority claims ≤ limit_of r link
unfolding link_at
within_at r claims known link priority most (Some l) is holds = subst (λ (o : Option Link). reserved_of link priority claims ≤ option_map_or (λ l. l.limit) o 0) (sym is) (holds.within priority most)
within_at r claims known link priority most None is holds =
    let none = none_reserved link priority claims (all-weaker (λ (claim : Key × Claim). HasLink r claim.1.link) (λ claim. (claim.1.link == link) ≡ false) (λ claim has. not_there r link claim.1.link is has (claim.1.link == link) refl) claims known) in
    omega (arith, none)

-- Link by link, what claims on links of the router take is within the limits just where it is on each.
within_limits : (r : Router) (claims : List (Key × Claim)) → T (is_sorted nat_cmp r.links) → AllByRecursion (λ (claim : Key × Claim). HasLink r claim.1.link) claims → AllByRecursion (IsWithinAt claims) r.links ↔ ((link priority : ℕ) → priority ≤ 7 → reserved_of link priority claims ≤ limit_of r link)
unfolding link_at
within_limits r claims sorted known = (
  λ all link priority most. within_at r claims known link priority most (find nat_cmp link r.links) refl (find-all_row nat_cmp exact_unsigned (IsWithinAt claims) link r.links all),
  λ within. all-from_find nat_cmp nat_cmp_total (IsWithinAt claims) r.links sorted (λ link l found. record { within = λ priority most. subst (λ (o : Option Link). reserved_of link priority claims ≤ option_map_or (λ l. l.limit) o 0) found (within link priority most) }),
)

-- And so what reservations claim that stand.
pub are_within : (r : Router) (s : State) (claims : List (Key × Claim)) → T (is_sorted nat_cmp r.links) → IsStanding r s.facts → AllByRecursion (λ resv. stands s.facts resv ≡ true) s.resvs → claims ≡ claims_of s.facts.paths s.resvs → AllByRecursion (IsWithinAt claims) r.links ↔ AreWithinLimits r s
are_within r s claims sorted is standing same =
    subst (λ (rows : List (Key × Claim)). AllByRecursion (IsWithinAt rows) r.links ↔ AreWithinLimits r s) (sym same) (within_limits r (claims_of s.facts.paths s.resvs) sorted (on_links r s is s.resvs standing))

-- What is told of a link with a claim on it granted again is told of the link as it is.
pub within_again : (b : Bool) (claims : List (Key × Claim)) (link : ℕ × Link) (row : Key × Claim) (setup : ℕ) → T (is_sorted key_cmp claims) → find_first (λ claim. claim.1.link == link.0) claims ≡ Some row
    → ((b ≡ true) ↔ ((priority : ℕ) → priority ≤ 7 → reserved_of row.1.link priority (granted (record { key = row.0; claim = row.1; setup = setup }) claims) ≤ link.1.limit)) → (b ≡ true) ↔ IsWithinAt claims link
within_again b claims link row setup sorted is means =
    let means = subst (λ (number : ℕ). (b ≡ true) ↔ ((priority : ℕ) → priority ≤ 7 → reserved_of number priority claims ≤ link.1.limit)) (found_on claims link.0 row is)
    (subst (λ (rows : List (Key × Claim)). (b ≡ true) ↔ ((priority : ℕ) → priority ≤ 7 → reserved_of row.1.link priority rows ≤ link.1.limit)) (granted_again claims link.0 row setup sorted is) means) in
    (λ passes. record { within = means.0 passes }, λ at. means.1 at.within)
