-- Which repair a message is for, and that it stays the one for whatever Resvs renew.
use Rattle.std.specs.Prelude.{◌≡◌, ℕ, ◌&&◌, Bool, true, false, cond, T, List, [], ◌∷◌, filter, map, Some, None}
use Rattle.std.specs.FinMap.Entries.{find, is_sorted}
use Rattle.std.specs.List.{AllByRecursion}
use Rattle.std.specs.Option.{option_map, option_map_or}
use Rattle.std.specs.Ordering.{is_eq, nat_cmp}
use Rattle.std.specs.declared.net.ipv4_addr.Ipv4Addr.{Ipv4Addr}
use Rattle.std.proofs.Common.{refl, sym, ap, subst, ◌∙◌}
use Rattle.sorted_rows.specs.ListLaws.{all-filter}
use Rattle.sorted_rows.specs.RowsLaws.{all_found}
use Rattle.lsr_facts.specs.OrderLaws.{key_total}
use Rattle.lsr_facts.specs.Orders.{key_cmp}
use Rattle.lsr_facts.specs.Routers.{is_same, link_at}
use Rattle.lsr_facts.specs.declared.key.Key.{Key}
use Rattle.lsr_facts.specs.declared.router.Router.{Router}
use Rattle.lsr_facts.specs.declared.repair.BypassTunnel.{BypassTunnel}
use Rattle.lsr_facts.specs.declared.repair.Repair.{Repair}
use Rattle.abstract_paths.specs.Merging.{under}
use Rattle.abstract_router.specs.BypassTunnels.{bypass_tunnels_of}
use Rattle.abstract_router.specs.Lsps.{around_of}
use Rattle.abstract_router.specs.Returning.{ends_at, is_known_as, repair_from, repair_known_as, the_one}
use Rattle.abstract_router.specs.States.{State}
use Rattle.facility_backup.specs.Matching.{is_for}
use Rattle.repair_arrivals.specs.Progresses.{bare}

and_true : (b : Bool) → (b && true) ≡ b
and_true true = refl
and_true false = refl

-- A PathErr doesn't say which router it comes from, so that isn't asked.
pub any_hop : (r : Router) (s : State) (key : Key) → the_one (filter (is_for r s None key) s.repairs) ≡ repair_known_as r s key
unfolding repair_known_as
any_hop r s key = λ i. the_one (filter (λ repair. and_true (is_known_as r key repair) i) s.repairs)

-- what holds of each holds of the one, if it is one
one_is : {X : Type 0} (P : X → Type 0) (xs : List X) (x : X) → AllByRecursion P xs → the_one xs ≡ Some x → P x
one_is P [] x each is = absurd (let e = is in cc)
one_is P (y ∷ []) x each is = let same : y ≡ x = let e = is in cc in subst P same each.0
one_is P (y ∷ z ∷ ys) x each is = absurd (let e = is in cc)

-- The repair that a message is for is that of its LSP.
pub found_from : (r : Router) (s : State) (hop : Ipv4Addr) (key : Key) (repair : Key × Repair) → T (is_sorted key_cmp s.repairs) → repair_from r s hop key ≡ Some repair → find key_cmp repair.0 s.repairs ≡ Some repair.1
unfolding repair_from
found_from r s hop key repair sorted is =
    let test = λ (repair : Key × Repair). is_known_as r key repair && ends_at r s hop repair in
    let P = λ (repair : Key × Repair). find key_cmp repair.0 s.repairs ≡ Some repair.1 in
    one_is P (filter test s.repairs) repair (all-filter P test s.repairs (all_found key_cmp key_total s.repairs sorted)) is

-- Bypasses are what they are whatever is repaired.
pub bypass_tunnels_apart : (r : Router) (s : State) (repairs : List (Key × Repair)) → bypass_tunnels_of r (record s { repairs = repairs }) ≡ bypass_tunnels_of r s
unfolding bypass_tunnels_of
bypass_tunnels_apart r s repairs = refl

pub around_apart : (r : Router) (s : State) (repairs : List (Key × Repair)) → around_of r (record s { repairs = repairs }) ≡ around_of r s
unfolding bypass_tunnels_of
around_apart r s repairs = refl

-- the one that passes, by what the test looks at
filter-bare : {A B : Type 0} (f : A → B) (test : B → Bool) (xs : List A) → filter test (map f xs) ≡ map f (filter (λ x. test (f x)) xs)
filter-bare f test [] = refl
filter-bare f test (x ∷ xs) =
    let rest = filter-bare f test xs in
    elim (test (f x)) as (λ b. cond b (f x ∷ filter test (map f xs)) (filter test (map f xs)) ≡ map f (cond b (x ∷ filter (λ x. test (f x)) xs) (filter (λ x. test (f x)) xs))) [
      | true ↦ ap (λ l. f x ∷ l) rest
      | false ↦ rest
    ]

one-bare : {A B : Type 0} (f : A → B) (xs : List A) → the_one (map f xs) ≡ option_map f (the_one xs)
one-bare f [] = refl
one-bare f (x ∷ []) = refl
one-bare f (x ∷ y ∷ xs) = refl

-- what is left of a repair is for a message as the repair is
abbrev is_for_bare : Router → List (ℕ × BypassTunnel) → Ipv4Addr → Key → Key × (ℕ × (Bool × ℕ)) → Bool
is_for_bare r bypass_tunnels hop key left =
    option_map_or (λ link. is_eq (key_cmp (under link.address left.0) key)) (link_at r left.1.1.1) false
    && option_map_or (λ bypass_tunnel. is_same bypass_tunnel.ends_at hop) (find nat_cmp left.1.0 bypass_tunnels) false

from_bare : (r : Router) (s : State) (hop : Ipv4Addr) (key : Key) → option_map bare (repair_from r s hop key) ≡ the_one (filter (is_for_bare r (bypass_tunnels_of r s) hop key) (map bare s.repairs))
unfolding repair_from
from_bare r s hop key =
    let test = is_for_bare r (bypass_tunnels_of r s) hop key in
    sym (one-bare bare (filter (λ repair. test (bare repair)) s.repairs)) ∙ sym (ap the_one (filter-bare bare test s.repairs))

-- So the repair that a message is for is the same one where as much is left of all.
pub same_from : (r : Router) (s : State) (repairs : List (Key × Repair)) (hop : Ipv4Addr) (key : Key) → map bare repairs ≡ map bare s.repairs
    → option_map bare (repair_from r (record s { repairs = repairs }) hop key) ≡ option_map bare (repair_from r s hop key)
same_from r s repairs hop key left =
    from_bare r (record s { repairs = repairs }) hop key
    ∙ (λ i. the_one (filter (is_for_bare r (bypass_tunnels_apart r s repairs i) hop key) (left i)))
    ∙ sym (from_bare r s hop key)
