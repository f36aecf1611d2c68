-- Which LSPs are protected, and by which bypass (RFC 4090, 4.1, 4.3 and 6). Which of several bypasses is taken is this
-- router's choice.
use Rattle.std.specs.Prelude.{ℕ, ◌%◌, ◌/◌, ◌==◌, ◌&&◌, ◌||◌, ◌++◌, not, Bool, true, false, if◌then◌else◌, List, [], ◌∷◌, filter, filter_map, find as find_first, Option, Some, None}
use Rattle.std.specs.List.{list_any}
use Rattle.std.specs.Option.{option_map, option_map_or, option_or, unwrap_or}
use Rattle.std.specs.declared.net.ipv4_addr.Ipv4Addr.{Ipv4Addr}
use Rattle.rsvp_bodies.specs.declared.trace.Trace.{Trace}
use Rattle.rsvp_bodies.specs.declared.trace.Trace.TheVariants.{Ipv4, Label, Other}
use Rattle.lsr_facts.specs.Lifetimes.{begins_here}
use Rattle.lsr_facts.specs.Routers.{is_same, link_at}
use Rattle.lsr_facts.specs.declared.assignment.Assignment.{Assignment}
use Rattle.lsr_facts.specs.declared.key.Key.{Key}
use Rattle.lsr_facts.specs.declared.path_fact.PathFact.{PathFact}
use Rattle.lsr_facts.specs.declared.router.Router.{Router}
use Rattle.lsr_facts.specs.declared.repair.BypassTunnel.{BypassTunnel}
use Rattle.lsr_facts.specs.declared.repair.Repair.{Repair}
use Rattle.lsr_facts.specs.declared.repair.Selected.{Selected}
use Rattle.lsr_facts.specs.declared.resv_fact.ResvFact.{ResvFact}
use Rattle.forwarding_table.specs.Labels.{is_label}
use Rattle.abstract_router.specs.Lsps.{Around}

-- the Path's SESSION_ATTRIBUTE has the flag of this bit
abbrev pub has_flag : ℕ → PathFact → Bool
has_flag bit path = option_map_or (λ attr. attr.flags / bit % 2 == 1) path.attr false

-- the head wants the LSP protected (RFC 3209, 4.7.1: flag 0x01), or facility backup for it (RFC 4090, 4.1: flag 0x02)
abbrev pub wants_protection : PathFact → Bool
wants_protection path = has_flag 0x01 path || option_map_or (λ wanted. wanted.flags / 0x02 % 2 == 1) path.fast_reroute false

-- it wants the next router protected too (RFC 4090, 4.3: flag 0x10)
abbrev pub wants_node_protection : PathFact → Bool
wants_node_protection path = has_flag 0x10 path

-- the LSP begins here, and is one of a tunnel that a bypass runs in
abbrev pub carries_bypass : Around → Key → PathFact → Bool
carries_bypass a key path = begins_here path.role && list_any (λ bypass_tunnel. bypass_tunnel.1.tunnel == key.session.tunnel) a.bypass_tunnels

-- An LSP is protected where its head wants that, and it carries no bypass of this router.
abbrev pub is_protected : Around → Key → PathFact → Bool
is_protected a key path = wants_protection path && not (carries_bypass a key path)

-- an entry of a record names the router of this address
abbrev pub names_router : Ipv4Addr → Trace → Bool
names_router a (Ipv4 prefix flags) = is_same prefix.address a
names_router a (Label flags label) = false
names_router a (Other bytes) = false

-- the label that a record begins with, where that router takes it on every link (RFC 3209, 4.4.1.3: flag 0x01)
abbrev pub first_label : List Trace → Option ℕ
first_label (Label flags label ∷ entries) = if (flags % 2 == 1) && is_label label then Some label else None
first_label _ = None

-- The label under which a router takes the LSP, by the record of its Resv: it stands directly after the router's address
-- (RFC 4090, 6.4.1).
unfoldable pub label_after : Ipv4Addr → List Trace → Option ℕ
label_after a [] = None
label_after a (entry ∷ entries) = option_or (if names_router a entry then first_label entries else None) (label_after a entries)

-- a bypass protects the link of a reservation, and is up over another link
abbrev pub leads_around : ResvFact → BypassTunnel → Bool
leads_around resv bypass_tunnel = (bypass_tunnel.protects == resv.link) && option_map_or (λ over. not (over.link == resv.link)) bypass_tunnel.over false

-- it ends at the router at the other end of that link
abbrev pub ends_at_peer : Router → ResvFact → BypassTunnel → Bool
ends_at_peer r resv bypass_tunnel = option_map_or (λ link. is_same link.peer_router bypass_tunnel.ends_at) (link_at r resv.link) false

-- An LSP with this reservation may be repaired over a bypass: that ends at the next router, which takes the label that it
-- gave, or at a later one, which takes the label that the record says (RFC 4090, 6.4.1).
abbrev pub selected_by : Router → ResvFact → ℕ × BypassTunnel → Option Selected
selected_by r resv bypass_tunnel =
    if not (leads_around resv bypass_tunnel.1) then None
    else if ends_at_peer r resv bypass_tunnel.1 then Some (record { bypass = bypass_tunnel.0; is_nnhop = false; label = resv.label; capacity = bypass_tunnel.1.capacity })
    else option_map (λ label. record { bypass = bypass_tunnel.0; is_nnhop = true; label = label; capacity = bypass_tunnel.1.capacity }) (label_after bypass_tunnel.1.ends_at (unwrap_or resv.recorded []))

-- all bypasses over which it may, in the order of their numbers
unfoldable pub ways_around : Around → ResvFact → List Selected
ways_around a resv = filter_map (selected_by a.place.router resv) a.bypass_tunnels

-- a bypass ends where the head would have it: later where it wants the next router protected, else at that router
abbrev pub is_preferred : PathFact → Selected → Bool
is_preferred path choice = if wants_node_protection path then choice.is_nnhop else not choice.is_nnhop

-- The bypasses that may protect an LSP, the best first: those that end where the head would have it, then the others. None
-- where it isn't protected (RFC 4090, 6.4.2).
unfoldable pub candidates_of : Around → Key → PathFact → ResvFact → List Selected
candidates_of a key path resv =
    if is_protected a key path
    then filter (is_preferred path) (ways_around a resv) ++ filter (λ choice. not (is_preferred path choice)) (ways_around a resv)
    else []

-- An LSP that is promised bandwidth of a bypass is served by that one alone, any other by a bypass that has none to promise.
abbrev pub may_serve : Option Assignment → Selected → Bool
may_serve None choice = choice.capacity == 0
may_serve (Some given) choice = choice.bypass == given.bypass

-- The bypass over which an LSP would be repaired: the first candidate that may serve it.
unfoldable pub selected : Around → Key → PathFact → Option Assignment → ResvFact → Option Selected
selected a key path given resv = find_first (may_serve given) (candidates_of a key path resv)

-- the repair of a reservation over a bypass: the label is the one that the bypass's end takes
abbrev pub repair_with : ResvFact → Selected → Repair
repair_with resv choice = record { bypass = choice.bypass; is_nnhop = choice.is_nnhop; resv = record resv { label = choice.label } }
