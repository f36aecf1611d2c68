-- What follows for two routers from their wires.
use Rattle.std.specs.Prelude.{◌≡◌, ◌⊎◌, ◌&&◌, ◌==◌, ◌||◌, ℕ, suc, zero, not, if◌then◌else◌, Bool, false, true, List, [], ◌∷◌, Contains, take, slice_get, Option, Some, None}
use Rattle.std.specs.Cmp.Lexicographic.{bytes_decides}
use Rattle.std.specs.List.{list_all, list_any}
use Rattle.std.specs.Net.Addr.{ipv4_octets}
use Rattle.std.specs.Option.{option_and_then, option_map_or}
use Rattle.std.specs.declared.net.ipv4_addr.Ipv4Addr.{Ipv4Addr}
use Rattle.std.proofs.Common.{refl, ap, sym, inl, inr, ⊎_elim, ◌∙◌}
use Rattle.std.proofs.lemmas.Bool.{and_parts, eq-eqb, eqb-true, or_parts}
use Rattle.std.proofs.lemmas.Option.{same_Some, slice_get_within}
use Rattle.label_space.specs.LineLaws.{Contains-cons_cases, none_contained}
use Rattle.lsr_facts.specs.Routers.{is_same, link_at, own_addresses}
use Rattle.lsr_facts.specs.declared.router.Link.{Link}
use Rattle.lsr_facts.specs.declared.router.Router.{Router}
use Rattle.abstract_paths.specs.Places.{is_own}
use Rattle.abstract_world.specs.Wires.{AreJoined, are_apart, can_join, have_none_in_common, is_neighbour, is_same_end, joins, name_each_other, names, other_end, router_at}
use Rattle.abstract_world.specs.declared.joint.End.{End}
use Rattle.abstract_world.specs.declared.joint.Joint.{Joint}

-- ---- addresses

pub same_address : (a b : Ipv4Addr) → is_same a b ≡ true → a ≡ b
same_address a b same = ap (λ (octets : List ℕ). record { octets = octets }) ((bytes_decides (ipv4_octets a) (ipv4_octets b)).0 same)

itself : (a : Ipv4Addr) → is_same a a ≡ true
itself a = (bytes_decides (ipv4_octets a) (ipv4_octets a)).1 refl

-- one of a list passes
any_passes : {A : Type 0} (p : A → Bool) (xs : List A) (x : A) → Contains xs x → p x ≡ true → list_any p xs ≡ true
any_passes p [] x among passes = absurd (none_contained x among)
any_passes p (y ∷ ys) x among passes = elim (Contains-cons_cases y ys x among) [
  | inl here ↦ ap (λ b. b || list_any p ys) (ap p here ∙ passes)
  | inr later ↦ by (p y) (any_passes p ys x later passes)
]
  where
    by : (b : Bool) → list_any p ys ≡ true → (b || list_any p ys) ≡ true
    by true is = refl
    by false is = is

-- none is one of both
none_common : (r q : Router) (a : Ipv4Addr) → have_none_in_common r q ≡ true → Contains (own_addresses r) a → Contains (own_addresses q) a → ⊥
unfolding is_own
none_common r q a none mine its =
    let one : list_any (is_own q) (own_addresses r) ≡ true = any_passes (is_own q) (own_addresses r) a mine (any_passes (is_same a) (own_addresses q) a its (itself a)) in
    absurd (let e = sym none ∙ ap not one in cc)

none_of_all : (r q : Router) (a : Ipv4Addr) (others : List Router) (place : ℕ) → list_all (have_none_in_common r) others ≡ true → router_at others place ≡ Some q → Contains (own_addresses r) a → Contains (own_addresses q) a → ⊥
none_of_all r q a [] place none at mine its = absurd (let e = at in cc)
none_of_all r q a (other ∷ others) zero none at mine its =
    none_common r q a (ap (have_none_in_common r) (sym (same_Some other q at)) ∙ (and_parts _ _ none).0) mine its
none_of_all r q a (other ∷ others) (suc place) none at mine its = none_of_all r q a others place (and_parts _ _ none).1 at mine its

-- An address is one router's alone.
pub one_owner : (routers : List Router) (i j : ℕ) (r q : Router) (a : Ipv4Addr) → are_apart routers ≡ true → router_at routers i ≡ Some r → router_at routers j ≡ Some q
    → Contains (own_addresses r) a → Contains (own_addresses q) a → i ≡ j
one_owner [] i j r q a apart at too mine its = absurd (let e = at in cc)
one_owner (x ∷ xs) zero zero r q a apart at too mine its = refl
one_owner (x ∷ xs) zero (suc j) r q a apart at too mine its =
    absurd (none_of_all r q a xs j (ap (λ (y : Router). list_all (have_none_in_common y) xs) (sym (same_Some x r at)) ∙ (and_parts _ _ apart).0) too mine its)
one_owner (x ∷ xs) (suc i) zero r q a apart at too mine its =
    absurd (none_of_all q r a xs i (ap (λ (y : Router). list_all (have_none_in_common y) xs) (sym (same_Some x q too)) ∙ (and_parts _ _ apart).0) at its mine)
one_owner (x ∷ xs) (suc i) (suc j) r q a apart at too mine its = ap suc (one_owner xs i j r q a (and_parts _ _ apart).1 at too mine its)

-- ---- neighbours

-- the router at the other end of a link, which the link names as its neighbour
pub record IsPeerOf (routers : List Router) (r : Router) (link : ℕ) (place : ℕ) : Type 0 where
  pub peer : Router
  pub there : router_at routers place ≡ Some peer
  pub named : (its : Link) → link_at r link ≡ Some its → its.peer_router ≡ peer.id

peer_of : (routers : List Router) (e f : End) (r : Router) → router_at routers e.router ≡ Some r → names routers e f ≡ true → IsPeerOf routers r e.link f.router
peer_of routers e f r at is = by_link (link_at r e.link) refl (sym (ap (λ (o : Option Router). option_map_or from (option_and_then (λ r. link_at r e.link) o) false) at) ∙ is)
  where
    to : Link → Router → Bool
    to link q = option_map_or (is_neighbour link q) (link_at q f.link) false

    from : Link → Bool
    from link = option_map_or (to link) (router_at routers f.router) false

    by_its : (link : Link) (q : Router) → link_at r e.link ≡ Some link → router_at routers f.router ≡ Some q → (its : Option Link) → option_map_or (is_neighbour link q) its false ≡ true → IsPeerOf routers r e.link f.router
    by_its link q has there None is = absurd (let e = is in cc)
    by_its link q has there (Some its) is = record {
      peer = q;
      there = there;
      named = λ other found. ap (λ (l : Link). l.peer_router) (same_Some other link (sym found ∙ has)) ∙ same_address link.peer_router q.id (and_parts _ _ is).1;
    }

    by_peer : (link : Link) → link_at r e.link ≡ Some link → (o : Option Router) → router_at routers f.router ≡ o → option_map_or (to link) o false ≡ true → IsPeerOf routers r e.link f.router
    by_peer link has None there is = absurd (let e = is in cc)
    by_peer link has (Some q) there is = by_its link q has there (link_at q f.link) is

    by_link : (o : Option Link) → link_at r e.link ≡ o → option_map_or from o false ≡ true → IsPeerOf routers r e.link f.router
    by_link None has is = absurd (let e = is in cc)
    by_link (Some link) has is = by_peer link has (router_at routers f.router) refl is

-- ends are one where they are the same
same_ends : (e f : End) → is_same_end e f ≡ true → e ≡ f
same_ends e f same = let both = and_parts (e.router == f.router) (e.link == f.link) same in λ i. record { router = eqb-true e.router f.router both.0 i; link = eqb-true e.link f.link both.1 i }

end_itself : (e : End) → is_same_end e e ≡ true
end_itself e = ap (λ b. b && (e.link == e.link)) (eq-eqb e.router e.router refl) ∙ eq-eqb e.link e.link refl

-- The links that a wire joins name each other.
pub names_over : (routers : List Router) (joints : List Joint) (e f : End) → list_all (name_each_other routers) joints ≡ true → other_end joints e ≡ Some f → names routers e f ≡ true
names_over routers [] e f each is = absurd (let e = is in cc)
names_over routers (j ∷ joints) e f each is =
    by (is_same_end e j.one) (is_same_end e j.other) refl refl (λ later. names_over routers joints e f (and_parts _ _ each).1 later) is
  where
    both : (names routers j.one j.other ≡ true) × (names routers j.other j.one ≡ true)
    both = and_parts (names routers j.one j.other) (names routers j.other j.one) (and_parts (name_each_other routers j) (list_all (name_each_other routers) joints) each).0

    by : (first second : Bool) → is_same_end e j.one ≡ first → is_same_end e j.other ≡ second → (other_end joints e ≡ Some f → names routers e f ≡ true)
        → (if first then Some j.other else if second then Some j.one else other_end joints e) ≡ Some f → names routers e f ≡ true
    by true second one other more is = (λ i. names routers (same_ends e j.one one i) (sym (same_Some j.other f is) i)) ∙ both.0
    by false true one other more is = (λ i. names routers (same_ends e j.other other i) (sym (same_Some j.one f is) i)) ∙ both.1
    by false false one other more is = more is

pub peer_over : (routers : List Router) (joints : List Joint) (e f : End) (r : Router) → list_all (name_each_other routers) joints ≡ true → other_end joints e ≡ Some f → router_at routers e.router ≡ Some r
    → IsPeerOf routers r e.link f.router
peer_over routers joints e f r each leads at = peer_of routers e f r at (names_over routers joints e f each leads)

-- ---- wires lead back

-- the wire that leads to a link is one of them
pub record IsLedBy (joints : List Joint) (f : End) : Type 0 where
  pub place : ℕ
  pub joint : Joint
  pub there : slice_get joints place ≡ Some joint
  pub leads : (joint.other ≡ f) ⊎ (joint.one ≡ f)

pub found_wire : (joints : List Joint) (e f : End) → other_end joints e ≡ Some f → IsLedBy joints f
found_wire [] e f is = absurd (let e = is in cc)
found_wire (j ∷ joints) e f is = by (is_same_end e j.one) (is_same_end e j.other) (λ later. found_wire joints e f later) is
  where
    by : (first second : Bool) → (other_end joints e ≡ Some f → IsLedBy joints f) → (if first then Some j.other else if second then Some j.one else other_end joints e) ≡ Some f → IsLedBy (j ∷ joints) f
    by true second more is = record { place = 0; joint = j; there = refl; leads = inl (same_Some j.other f is) }
    by false true more is = record { place = 0; joint = j; there = refl; leads = inr (same_Some j.one f is) }
    by false false more is = let later = more is in record { place = suc later.place; joint = later.joint; there = later.there; leads = later.leads }

-- a wire that joins neither end of these, nor a link with itself
record IsFree (others : List Joint) (joint : Joint) : Type 0 where
  two : is_same_end joint.one joint.other ≡ false
  one : list_any (joins joint.one) others ≡ false
  other : list_any (joins joint.other) others ≡ false

not_is : (b : Bool) → not b ≡ true → b ≡ false
not_is true is = absurd (let e = is in cc)
not_is false is = refl

free_of : (routers : List Router) (others : List Joint) (joint : Joint) → can_join routers others joint ≡ true → IsFree others joint
free_of routers others joint can =
    let last = and_parts _ _ can in
    let before = and_parts _ _ last.0 in
    let two = and_parts _ _ before.0 in
    record { two = not_is _ two.1; one = not_is _ before.1; other = not_is _ last.1 }

-- each is free of those before it
abbrev AreFree : List Joint → Type 0
AreFree joints = (place : ℕ) (joint : Joint) → slice_get joints place ≡ Some joint → IsFree (take place joints) joint

are_free : (routers : List Router) (joints : List Joint) → AreJoined routers joints → AreFree joints
are_free routers joints joined place joint there =
    free_of routers (take place joints) joint (sym (ap (λ (o : Option Joint). option_map_or (can_join routers (take place joints)) o true) there) ∙ joined place (slice_get_within joints place joint there))

later_free : (first : Joint) (joints : List Joint) → AreFree (first ∷ joints) → AreFree joints
later_free first joints free place joint there = let is = free (suc place) joint there in record { two = is.two; one = (or_parts _ _ is.one).1; other = (or_parts _ _ is.other).1 }

-- the ends of a later wire aren't those of the first
apart_from : (first : Joint) (joints : List Joint) (f : End) → AreFree (first ∷ joints) → IsLedBy joints f → joins f first ≡ false
apart_from first joints f free led =
    let is = free (suc led.place) led.joint led.there in
    ⊎_elim (λ (at : led.joint.other ≡ f). ap (λ (e : End). joins e first) (sym at) ∙ (or_parts _ _ is.other).0) (λ (at : led.joint.one ≡ f). ap (λ (e : End). joins e first) (sym at) ∙ (or_parts _ _ is.one).0) led.leads

turned : (e f : End) → is_same_end e f ≡ false → is_same_end f e ≡ false
turned e f apart = by (is_same_end f e) refl
  where
    by : (b : Bool) → is_same_end f e ≡ b → b ≡ false
    by false same = refl
    by true same = absurd (let back : is_same_end e f ≡ true = ap (λ (g : End). is_same_end e g) (same_ends f e same) ∙ end_itself e in let e = sym back ∙ apart in cc)

leads_back_free : (joints : List Joint) (e f : End) → AreFree joints → other_end joints e ≡ Some f → other_end joints f ≡ Some e
leads_back_free [] e f free is = absurd (let e = is in cc)
leads_back_free (j ∷ joints) e f free is =
    by (is_same_end e j.one) (is_same_end e j.other) refl refl
    (λ later. apart_from j joints f free (found_wire joints e f later)) (λ later. leads_back_free joints e f (later_free j joints free) later) is
  where
    first : IsFree [] j
    first = free 0 j refl

    from_other : other_end (j ∷ joints) j.other ≡ Some j.one
    from_other =
        ap (λ b. if b then Some j.other else if is_same_end j.other j.other then Some j.one else other_end joints j.other) (turned j.one j.other first.two)
        ∙ ap (λ b. if b then Some j.one else other_end joints j.other) (end_itself j.other)

    from_one : other_end (j ∷ joints) j.one ≡ Some j.other
    from_one = ap (λ b. if b then Some j.other else if is_same_end j.one j.other then Some j.one else other_end joints j.one) (end_itself j.one)

    passed : joins f j ≡ false → other_end joints f ≡ Some e → other_end (j ∷ joints) f ≡ Some e
    passed apart later =
        let both = or_parts (is_same_end f j.one) (is_same_end f j.other) apart in
        ap (λ b. if b then Some j.other else if is_same_end f j.other then Some j.one else other_end joints f) both.0
        ∙ ap (λ b. if b then Some j.one else other_end joints f) both.1
        ∙ later

    by : (at_one at_other : Bool) → is_same_end e j.one ≡ at_one → is_same_end e j.other ≡ at_other → (other_end joints e ≡ Some f → joins f j ≡ false)
        → (other_end joints e ≡ Some f → other_end joints f ≡ Some e) → (if at_one then Some j.other else if at_other then Some j.one else other_end joints e) ≡ Some f → other_end (j ∷ joints) f ≡ Some e
    by true at_other one other apart back is =
        ap (λ (g : End). other_end (j ∷ joints) g) (sym (same_Some j.other f is)) ∙ from_other ∙ ap (λ (g : End). Some g) (sym (same_ends e j.one one))
    by false true one other apart back is =
        ap (λ (g : End). other_end (j ∷ joints) g) (sym (same_Some j.one f is)) ∙ from_one ∙ ap (λ (g : End). Some g) (sym (same_ends e j.other other))
    by false false one other apart back is = passed (apart is) (back is)

-- A wire leads from a link to another one, and back.
pub leads_back : (routers : List Router) (joints : List Joint) (e f : End) → AreJoined routers joints → other_end joints e ≡ Some f → other_end joints f ≡ Some e
leads_back routers joints e f joined is = leads_back_free joints e f (are_free routers joints joined) is
