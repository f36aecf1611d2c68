-- Wires between routers: which links they join, and when they are as neighbours take them to be.
use Rattle.std.specs.Prelude.{◌≡◌, ◌<◌, ℕ, ◌||◌, ◌&&◌, ◌==◌, not, Bool, false, true, if◌then◌else◌, List, [], ◌∷◌, Option, Some, None, slice_get, is_some, length, take}
use Rattle.std.specs.List.{list_all, list_any}
use Rattle.std.specs.Option.{option_and_then, option_map_or}
use Rattle.lsr_facts.specs.Routers.{is_same, link_at, own_addresses}
use Rattle.lsr_facts.specs.declared.router.Link.{Link}
use Rattle.lsr_facts.specs.declared.router.Router.{Router}
use Rattle.abstract_paths.specs.Places.{is_own}
use Rattle.abstract_world.specs.declared.joint.End.{End}
use Rattle.abstract_world.specs.declared.joint.Joint.{Joint}

-- they are one link of one router
abbrev pub is_same_end : End → End → Bool
is_same_end e f = (e.router == f.router) && (e.link == f.link)

-- the wire joins this link
abbrev pub joins : End → Joint → Bool
joins e joint = is_same_end e joint.one || is_same_end e joint.other

-- the link at the other end of the wire that joins this one
abbrev pub other_end : List Joint → End → Option End
other_end [] e = None
other_end (joint ∷ joints) e =
    if is_same_end e joint.one then Some joint.other
    else if is_same_end e joint.other then Some joint.one
    else other_end joints e

-- the router of this place
abbrev pub router_at : List Router → ℕ → Option Router
router_at routers place = slice_get routers place

-- the link, as its router has it configured
abbrev pub link_of : List Router → End → Option Link
link_of routers e = option_and_then (λ r. link_at r e.link) (router_at routers e.router)

-- A wire can be put up beside others: the links that it joins are there, they are two, and no other wire joins either.
abbrev pub can_join : List Router → List Joint → Joint → Bool
can_join routers others joint =
    is_some (link_of routers joint.one) && is_some (link_of routers joint.other) && not (is_same_end joint.one joint.other)
    && not (list_any (joins joint.one) others) && not (list_any (joins joint.other) others)

-- the wire of this place among them, if there is one, can be put up beside those before it
abbrev pub can_join_at : List Router → List Joint → ℕ → Bool
can_join_at routers joints place = option_map_or (can_join routers (take place joints)) (slice_get joints place) true

-- all of them can
abbrev pub AreJoined : List Router → List Joint → Type 0
AreJoined routers joints = (place : ℕ) → place < length joints → can_join_at routers joints place ≡ true

-- the link's neighbour is that router, by its address on the other link and by its router id
abbrev pub is_neighbour : Link → Router → Link → Bool
is_neighbour link r its = is_same link.peer its.address && is_same link.peer_router r.id

-- the router and its link of one end name those of the other as their neighbour
abbrev pub names : List Router → End → End → Bool
names routers e f =
    option_map_or (λ link. option_map_or (λ r. option_map_or (is_neighbour link r) (link_at r f.link) false) (router_at routers f.router) false)
    (link_of routers e) false

-- a wire joins links that name each other
abbrev pub name_each_other : List Router → Joint → Bool
name_each_other routers joint = names routers joint.one joint.other && names routers joint.other joint.one

-- no address is one of both routers
abbrev pub have_none_in_common : Router → Router → Bool
have_none_in_common r q = not (list_any (is_own q) (own_addresses r))

-- no address is one of two of them
abbrev pub are_apart : List Router → Bool
are_apart [] = true
are_apart (r ∷ more) = list_all (have_none_in_common r) more && are_apart more

-- The wires are as the routers take them to be: each joins links that name each other's address and router id; and no address
-- is one of two routers, be it a router id or the address of a link. That the addresses of one router differ is a rule of its
-- configuration.
abbrev pub is_closed : List Router → List Joint → Bool
is_closed routers joints = list_all (name_each_other routers) joints && are_apart routers
