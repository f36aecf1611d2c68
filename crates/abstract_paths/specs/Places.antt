-- Where a router is: its own addresses, its links, and its neighbours over the links that are up.
use Rattle.std.specs.Prelude.{ℕ, ◌-◌, ◌/◌, ◌^◌, ◌||◌, ◌==◌, Bool, false, List, filter, find, Option}
use Rattle.std.specs.FinMap.Entries as rows
use Rattle.std.specs.List.{list_any}
use Rattle.std.specs.Net.Addr.{ipv4_bits}
use Rattle.std.specs.Option.{option_map_or}
use Rattle.std.specs.Ordering.{nat_cmp}
use Rattle.std.specs.declared.net.ipv4_addr.Ipv4Addr.{Ipv4Addr}
use Rattle.rsvp_bodies.specs.declared.prefix.Prefix.{Prefix}
use Rattle.lsr_facts.specs.Routers.{is_same, own_addresses}
use Rattle.lsr_facts.specs.declared.facts.Facts.{Facts}
use Rattle.lsr_facts.specs.declared.node.Node.{Node}
use Rattle.lsr_facts.specs.declared.router.Link.{Link}
use Rattle.lsr_facts.specs.declared.router.Router.{Router}

-- the address is the router's own
unfoldable pub is_own : Router → Ipv4Addr → Bool
is_own r a = list_any (is_same a) (own_addresses r)

-- The prefix contains the address: so many of their first bits are the same (RFC 3209, 4.3.3.2).
unfoldable pub contains : Prefix → Ipv4Addr → Bool
contains p a = ipv4_bits a / 2 ^ (32 - p.length) == ipv4_bits p.address / 2 ^ (32 - p.length)

-- the router is one of the prefix's nodes, an abstract node (RFC 3209, 4.3.2)
unfoldable pub is_here : Router → Prefix → Bool
is_here r p = list_any (contains p) (own_addresses r)

-- Where a router stands: what never changes of it, which of its links are up, and its static routes.
pub record Place : Type 0 where
  pub router : Router
  pub up : List (ℕ × Bool)
  pub routes : List (Prefix × ℕ)

-- where the router stands, by what is known
abbrev pub place_of : Router → Facts → Place
place_of r s = record { router = r; up = s.up; routes = s.routes }

-- and as it is lent
abbrev pub place_at : Node → Place
place_at node = record { router = node.router.now; up = node.up.now; routes = node.routes.now }

-- the link is up
unfoldable pub is_up : List (ℕ × Bool) → ℕ → Bool
is_up up number = option_map_or (λ is. is) (rows.find nat_cmp number up) false

-- the links that are up, in the order of their numbers
abbrev pub up_links : Place → List (ℕ × Link)
up_links n = filter (λ l. is_up n.up l.0) n.router.links

-- The link to a neighbour, by its address on the link or its router id, that passes the test: of several the
-- one of the least number (it is topologically adjacent: RFC 3209, 4.3.4.1, 4).
unfoldable pub neighbour : (Ipv4Addr → Bool) → Place → Option (ℕ × Link)
neighbour test n = find (λ l. test l.1.peer || test l.1.peer_router) (up_links n)
