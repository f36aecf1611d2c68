-- What an operator tells a router of tunnels, of bypasses and of static routes (RFC 3209, 2.1 and 2.5; RFC 4090, 3.2).
use Rattle.std.specs.Prelude.{ℕ, ◌+◌, ◌==◌, ◌&&◌, ◌||◌, nat_le, nat_lt, not, Bool, false, List, [], ◌∷◌, drop, length, option_map, option_to_list, Option, Some, None, is_none, is_some, find as find_first}
use Rattle.std.specs.FinMap.Entries.{find}
use Rattle.byteorder.specs.Endian.{big_number}
use Rattle.std.specs.Option.{option_map_or}
use Rattle.std.specs.Ordering.{nat_cmp}
use Rattle.std.specs.Result.{is_err, result_ok}
use Rattle.std.specs.declared.net.ipv4_addr.Ipv4Addr.{Ipv4Addr}
use Rattle.rsvp_contents.specs.Limits.{is_short_route}
use Rattle.rsvp_bodies.specs.declared.prefix.Prefix.{Prefix}
use Rattle.rsvp_bodies.specs.declared.step.Step.{Step}
use Rattle.rsvp_bodies.specs.Rates.{rate_of}
use Rattle.rsvp_bodies.specs.Traffic.{rate_asked}
use Rattle.lsr_facts.specs.Bypasses.{carries, is_above_rate, is_for_bypass, is_to_protect}
use Rattle.lsr_facts.specs.Limits.{max_bypasses, max_routes, max_tunnels}
use Rattle.lsr_facts.specs.Orders.{key_cmp, prefix_cmp}
use Rattle.lsr_facts.specs.Routers.{link_at, masked}
use Rattle.lsr_facts.specs.Tunnels.{current_key, head_key, heads_of, pending_key, route_from}
use Rattle.lsr_facts.specs.declared.bypass.Bypass.{Bypass}
use Rattle.lsr_facts.specs.declared.choice.Choice.{Choice}
use Rattle.lsr_facts.specs.declared.choice.Choice.TheVariants.{Tail, Link}
use Rattle.lsr_facts.specs.declared.facts.Facts.{Facts}
use Rattle.lsr_facts.specs.declared.key.Key.{Key}
use Rattle.lsr_facts.specs.declared.refusal.Refusal.{Refusal}
use Rattle.lsr_facts.specs.declared.refusal.Refusal.TheVariants.{BadCapacity, BadRoute, BypassExists, BypassOnItsLink, ChangePending, Full, InUse, TunnelExists, UnknownLink, UnknownTunnel}
use Rattle.lsr_facts.specs.declared.router.Router.{Router}
use Rattle.lsr_facts.specs.declared.tunnel.Tunnel.{Tunnel}
use Rattle.lsr_facts.specs.Changes.{begun, cancelled}
use Rattle.abstract_paths.specs.declared.commands.Command.{Command}
use Rattle.abstract_paths.specs.declared.commands.Command.TheVariants.{AddTunnel, ChangeTunnel, CancelChange, DropTunnel, AddBypass, DropBypass, AddRoute, DropRoute}
use Rattle.abstract_paths.specs.declared.tunnels.NewBypass.{NewBypass}
use Rattle.abstract_paths.specs.declared.tunnels.NewTunnel.{NewTunnel}
use Rattle.abstract_paths.specs.Changes.{with_bypass, with_route, with_tunnel, without_bypass, without_paths, without_route, without_tunnel}
use Rattle.abstract_paths.specs.Heads.{head_hop, is_full, with_head}
use Rattle.abstract_paths.specs.Outcomes.{PathOutcome, done, refused}
use Rattle.abstract_paths.specs.Places.{is_own, place_of}
use Rattle.abstract_paths.specs.Tears.{leaves_by}

-- the rate of a traffic descriptor of 32 bytes is defined: its fourth word says it (RFC 2210, 3.1)
abbrev pub has_rate : List ℕ → Bool
has_rate tspec = is_some (rate_of (big_number 4 (drop 12 tspec)))

-- An LSP to the endpoint can't be asked for: with this router's own step the route is too long, the rate isn't defined,
-- or no way leads on.
unfoldable pub is_bad_request : Router → Facts → Ipv4Addr → List Step → List ℕ → Bool
is_bad_request r s endpoint route tspec =
    not (is_short_route (route_from r route)) || not (has_rate tspec) || is_err (head_hop (place_of r s) route endpoint)

-- a tunnel can't be asked for: it ends here, a priority is above 7, or its LSP can't be asked for
abbrev pub is_bad_tunnel : Router → Facts → NewTunnel → Bool
is_bad_tunnel r s t =
    is_own r t.endpoint || nat_lt 7 t.attr.setup || nat_lt 7 t.attr.hold || is_bad_request r s t.endpoint t.route t.tspec

-- no tunnel has the number
abbrev pub is_unknown : Facts → ℕ → Bool
is_unknown s number = is_none (find nat_cmp number s.tunnels)

-- the tunnel of the number is such, if there is one
abbrev pub is_tunnel_such : (Tunnel → Bool) → Facts → ℕ → Bool
is_tunnel_such test s number = option_map_or test (find nat_cmp number s.tunnels) false

-- the tunnel's current LSP has a path, and leaves by the link
abbrev pub runs_over : Router → Facts → ℕ → ℕ × Tunnel → Bool
runs_over r s link tunnel = option_map_or (leaves_by link) (find key_cmp (current_key r tunnel) s.paths) false

-- the way leaves by a link that a bypass in the tunnel of this number protects
abbrev pub is_onto_its_link : List (ℕ × Bypass) → ℕ → Choice → Bool
is_onto_its_link bypasses number Tail = false
is_onto_its_link bypasses number (Link link rest) = is_to_protect bypasses number link

-- An LSP of the tunnel would leave by such a link, if it took this route.
abbrev pub comes_onto_its_link : Router → Facts → ℕ → Ipv4Addr → List Step → Bool
comes_onto_its_link r s number endpoint route =
    option_map_or (is_onto_its_link s.bypasses number) (result_ok (head_hop (place_of r s) route endpoint)) false

-- the prefix, with the bits of its address past its length set to 0
abbrev pub masked_prefix : Prefix → Prefix
masked_prefix p = record p { address = masked p.address p.length }

-- a static route to exactly these addresses stands
abbrev pub has_route : Facts → Prefix → Bool
has_route s prefix = is_some (find prefix_cmp (masked_prefix prefix) s.routes)

-- The tests of a command, in their order, each with what it is refused for.
abbrev pub tests_of : Router → Facts → Command → List (Bool × Refusal)
tests_of r s (AddTunnel t) =
    (not (is_unknown s t.number), TunnelExists)
    ∷ (nat_le max_tunnels (length s.tunnels) || is_full s, Full)
    ∷ (is_bad_tunnel r s t, BadRoute)
    ∷ []
tests_of r s (ChangeTunnel c) =
    (is_unknown s c.number, UnknownTunnel)
    ∷ (is_tunnel_such (λ tunnel. is_some tunnel.pending) s c.number, ChangePending)
    ∷ (is_tunnel_such (λ tunnel. tunnel.last == 65535) s c.number || is_full s, Full)
    ∷ (is_tunnel_such (λ tunnel. is_bad_request r s tunnel.endpoint c.route c.tspec) s c.number, BadRoute)
    ∷ (is_tunnel_such (λ tunnel. comes_onto_its_link r s c.number tunnel.endpoint c.route) s c.number, BypassOnItsLink)
    ∷ (is_above_rate s.bypasses c.number (rate_asked c.tspec), BadCapacity)
    ∷ []
tests_of r s (CancelChange number) = (is_unknown s number, UnknownTunnel) ∷ []
tests_of r s (DropTunnel number) = (is_unknown s number, UnknownTunnel) ∷ (is_for_bypass s.bypasses number, InUse) ∷ []
tests_of r s (AddBypass b) =
    (is_none (link_at r b.link), UnknownLink)
    ∷ (is_unknown s b.tunnel, UnknownTunnel)
    ∷ (is_some (find nat_cmp b.number s.bypasses), BypassExists)
    ∷ (nat_le max_bypasses (length s.bypasses), Full)
    ∷ (is_tunnel_such (λ tunnel. runs_over r s b.link (b.tunnel, tunnel)) s b.tunnel, BypassOnItsLink)
    ∷ (not (is_tunnel_such (carries b.capacity) s b.tunnel), BadCapacity)
    ∷ []
tests_of r s (DropBypass number) = (is_none (find nat_cmp number s.bypasses), UnknownTunnel) ∷ []
tests_of r s (AddRoute prefix link) =
    (nat_lt 32 prefix.length, BadRoute)
    ∷ (is_none (link_at r link), UnknownLink)
    ∷ (not (has_route s prefix) && nat_le max_routes (length s.routes), Full)
    ∷ []
tests_of r s (DropRoute prefix) = (nat_lt 32 prefix.length || not (has_route s prefix), BadRoute) ∷ []

-- why a command is refused: the first of its tests that holds
abbrev pub refusal_of : Router → Facts → Command → Option Refusal
refusal_of r s c = option_map (λ test. test.1) (find_first (λ test. test.0) (tests_of r s c))

-- a tunnel as it is asked for, with its first LSP
abbrev pub tunnel_by : NewTunnel → Tunnel
tunnel_by t = record {
  endpoint = t.endpoint;
  attr = t.attr;
  fast_reroute = t.fast_reroute;
  current = record { id = 1; route = t.route; tspec = t.tspec };
  pending = None;
  last = 1;
  noted = None;
}

-- a bypass as it is asked for
abbrev pub bypass_by : NewBypass → Bypass
bypass_by b = record { tunnel = b.tunnel; link = b.link; capacity = b.capacity }

-- The tunnel of a number begins, and its LSP is signalled.
abbrev pub with_begun : Router → ℕ → Tunnel → Facts → Facts
with_begun r number tunnel s = with_tunnel number tunnel (with_head r (number, tunnel) tunnel.current s)

-- The tunnel of a number is being changed, and the LSP that is to take its current one's place is signalled.
abbrev pub with_change : Router → ℕ → Tunnel → Facts → Facts
with_change r number tunnel s =
    with_tunnel number tunnel (option_map_or (λ lsp. with_head r (number, tunnel) lsp s) tunnel.pending s)

-- The tunnel's change is given up, with the LSP that was to take its current one's place.
abbrev pub with_cancelled : Router → ℕ → Tunnel → Facts → Facts
with_cancelled r number tunnel s =
    with_tunnel number (cancelled tunnel) (without_paths (option_to_list (pending_key r (number, tunnel))) s)

-- The tunnel goes, with its LSPs.
abbrev pub with_dropped : Router → ℕ → Tunnel → Facts → Facts
with_dropped r number tunnel s = without_tunnel number (without_paths (heads_of r (number, tunnel)) s)

-- what becomes of the tunnel of a number, if there is one
abbrev pub for_tunnel : (Tunnel → Facts → Facts) → ℕ → Facts → Facts
for_tunnel change number s = option_map_or (λ tunnel. change tunnel s) (find nat_cmp number s.tunnels) s

-- What a command changes that isn't refused.
abbrev pub commanded : Router → Facts → Command → Facts
commanded r s (AddTunnel t) = with_begun r t.number (tunnel_by t) s
commanded r s (ChangeTunnel c) = for_tunnel (λ tunnel. with_change r c.number (begun c.route c.tspec tunnel)) c.number s
commanded r s (CancelChange number) = for_tunnel (with_cancelled r number) number s
commanded r s (DropTunnel number) = for_tunnel (with_dropped r number) number s
commanded r s (AddBypass b) = with_bypass b.number (bypass_by b) s
commanded r s (DropBypass number) = without_bypass number s
commanded r s (AddRoute prefix link) = with_route (masked_prefix prefix) link s
commanded r s (DropRoute prefix) = without_route (masked_prefix prefix) s

-- What a command does: it is refused, or done.
unfoldable pub command : Router → Facts → Command → PathOutcome
command r s c = option_map_or (refused s) (refusal_of r s c) (done [] (commanded r s c))

-- the LSP that a command signals, if it signals one
abbrev pub begun_by : Router → Facts → Command → Option Key
begun_by r s (AddTunnel t) = Some (head_key r t.number t.endpoint 1)
begun_by r s (ChangeTunnel c) = option_map (λ tunnel. head_key r c.number tunnel.endpoint (tunnel.last + 1)) (find nat_cmp c.number s.tunnels)
begun_by r s c = None
