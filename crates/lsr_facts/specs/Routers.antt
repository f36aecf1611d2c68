-- What a router is opened with: its own addresses, its links, its labels, its static routes.
use Rattle.std.specs.Prelude.{◌≡◌, ℕ, ◌+◌, ◌-◌, ◌%◌, ◌^◌, ◌≤◌, ◌<◌, nat_eq, Bool, List, ◌∷◌, map, length, Option, is_some, IsTrue, T}
use Rattle.std.specs.Cmp.Lexicographic.{pointwise}
use Rattle.std.specs.FinMap.Entries as rows
use Rattle.std.specs.List.{AllByRecursion, IsDistinct}
use Rattle.std.specs.Net.Addr.{ipv4_octets, ipv4_bits}
use Rattle.std.specs.Int.{to_be_bytes, w32}
use Rattle.std.specs.Ordering.{nat_cmp}
use Rattle.std.specs.declared.net.ipv4_addr.Ipv4Addr.{Ipv4Addr}
use Rattle.rsvp_contents.specs.Below.objects.Ranges.{IsAddress}
use Rattle.rsvp_contents.specs.Below.bodies.declared.prefix.Prefix.{Prefix}
use Rattle.lsr_facts.specs.Limits.{max_links, max_routes}
use Rattle.lsr_facts.specs.Orders.{prefix_cmp}
use Rattle.lsr_facts.specs.declared.router.LabelRange.{LabelRange}
use Rattle.lsr_facts.specs.declared.router.Link.{Link}
use Rattle.lsr_facts.specs.declared.router.Router.{Router}

-- they are one address
abbrev pub is_same : Ipv4Addr → Ipv4Addr → Bool
is_same a b = pointwise nat_eq (ipv4_octets a) (ipv4_octets b)

-- the router id and the addresses of the links
abbrev pub own_addresses : Router → List Ipv4Addr
own_addresses r = r.id ∷ map (λ l. l.1.address) r.links

-- the router's link of this number
unfoldable pub link_at : Router → ℕ → Option Link
link_at r number = rows.find nat_cmp number r.links

-- the router has a link of this number
abbrev pub HasLink : Router → ℕ → Type 0
HasLink r number = IsTrue (is_some (link_at r number))

-- labels that may be given out: of 16 to 1,048,575 (RFC 3032, 2.1), at most 4,096 of them
pub record AreLabels (labels : LabelRange) : Type 0 where
  pub first : 16 ≤ labels.first
  pub some : labels.first ≤ labels.last
  pub last : labels.last ≤ 1048575
  pub few : labels.last < labels.first + 4096

-- a link: numbered from 1, with addresses of four octets, its limit at most 2^50 bytes per second
pub record IsLink (link : ℕ × Link) : Type 0 where
  pub numbered : 1 ≤ link.0
  pub address : IsAddress link.1.address
  pub peer : IsAddress link.1.peer
  pub peer_router : IsAddress link.1.peer_router
  pub limit : link.1.limit ≤ 2 ^ 50

-- A router: it has a refresh period, and at most 16 links, and its own addresses are all different.
pub record IsRouter (r : Router) : Type 0 where
  pub id : IsAddress r.id
  pub refresh : 1 ≤ r.refresh_ms
  pub labels : AreLabels r.labels
  pub in_order : T (rows.is_sorted nat_cmp r.links)
  pub few : length r.links ≤ max_links
  pub links : AllByRecursion IsLink r.links
  pub apart : IsDistinct is_same (own_addresses r)

-- the address with the bits past a length set to 0
unfoldable pub masked : Ipv4Addr → ℕ → Ipv4Addr
masked address length =
    let bits = ipv4_bits address in
    record { octets = to_be_bytes w32 (bits - bits % 2 ^ (32 - length)) }

-- the static routes: to prefixes with no bits past their length, over links of the router, at most 256
pub record AreRoutes (r : Router) (routes : List (Prefix × ℕ)) : Type 0 where
  pub in_order : T (rows.is_sorted prefix_cmp routes)
  pub few : length routes ≤ max_routes
  pub prefixes : AllByRecursion (λ route. route.0.length ≤ 32) routes
  pub masked : AllByRecursion (λ route. ipv4_bits route.0.address % 2 ^ (32 - route.0.length) ≡ 0) routes
  pub over_links : AllByRecursion (λ route. HasLink r route.1) routes
