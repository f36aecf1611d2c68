-- The paths of tunnels that begin here (RFC 3209, 2.1 and 4.3.4).
use Rattle.std.specs.Prelude.{ℕ, ◌||◌, nat_le, Bool, if◌then◌else◌, List, [], length, Some, is_some, Result, Ok, Err, fold}
use Rattle.std.specs.FinMap.Entries.{find}
use Rattle.std.specs.Option.{option_map_or}
use Rattle.std.specs.Ordering.{nat_cmp}
use Rattle.std.specs.declared.net.ipv4_addr.Ipv4Addr.{Ipv4Addr}
use Rattle.rsvp_objects.specs.declared.values.ErrorSpec.{ErrorSpec}
use Rattle.rsvp_bodies.specs.declared.step.Step.{Step}
use Rattle.lsr_facts.specs.Limits.{max_lsps}
use Rattle.lsr_facts.specs.Orders.{key_cmp}
use Rattle.lsr_facts.specs.Tunnels.{current_key, head_key, route_from}
use Rattle.lsr_facts.specs.declared.choice.Choice.{Choice}
use Rattle.lsr_facts.specs.declared.errors.RsvpError.{RsvpError}
use Rattle.lsr_facts.specs.declared.facts.Facts.{Facts}
use Rattle.lsr_facts.specs.declared.path_fact.PathFact.{PathFact}
use Rattle.lsr_facts.specs.declared.path_fact.Role.TheVariants as roles
use Rattle.lsr_facts.specs.declared.router.Router.{Router}
use Rattle.lsr_facts.specs.declared.tunnel.Tunnel.{Tunnel}
use Rattle.lsr_facts.specs.declared.tunnel.TunnelLsp.{TunnelLsp}
use Rattle.abstract_paths.specs.Changes.{with_path, with_tunnel}
use Rattle.abstract_paths.specs.Paths.{link_of, rest_of}
use Rattle.abstract_paths.specs.Places.{Place, place_of}
use Rattle.abstract_paths.specs.Routing.{next_hop}

-- The next hop of a tunnel's LSP: by its route from this router on.
abbrev pub head_hop : Place → List Step → Ipv4Addr → Result Choice RsvpError
head_hop n route endpoint = next_hop n (Some (route_from n.router route)) endpoint

-- The path of a tunnel's LSP that goes this way: it carries IPv4, its route is recorded, and it passes nothing on.
abbrev pub head_path : Tunnel → TunnelLsp → Choice → PathFact
head_path tunnel lsp way = record {
  role = roles.Head;
  origins = [];
  out_link = link_of way;
  given = Some lsp.route;
  rest = rest_of way;
  recorded = Some [];
  label_request = record { l3pid = 0x0800 };
  tspec = lsp.tspec;
  attr = Some tunnel.attr;
  fast_reroute = tunnel.fast_reroute;
  passing = [];
}

-- a tunnel's LSP has a path, where a way leads on
abbrev pub with_head_by : Router → ℕ × Tunnel → TunnelLsp → Facts → Result Choice RsvpError → Facts
with_head_by r tunnel lsp s (Ok way) = with_path (head_key r tunnel.0 tunnel.1.endpoint lsp.id) (head_path tunnel.1 lsp way) s
with_head_by r tunnel lsp s (Err e) = s

-- A tunnel's LSP is signalled: it has a path from now on, if a way leads on. It takes the place of a path of another role
-- that has its key.
unfoldable pub with_head : Router → ℕ × Tunnel → TunnelLsp → Facts → Facts
with_head r tunnel lsp s = with_head_by r tunnel lsp s (head_hop (place_of r s) lsp.route tunnel.1.endpoint)

-- there is no room for another LSP
abbrev pub is_full : Facts → Bool
is_full s = nat_le max_lsps (length s.paths)

-- A tunnel whose current LSP has no path is tried, where there is room.
abbrev pub tried : Router → Facts → ℕ × Tunnel → Facts
tried r s tunnel =
    if is_full s || is_some (find key_cmp (current_key r tunnel) s.paths) then s else with_head r tunnel tunnel.1.current s

-- All tunnels are tried, in the order of their numbers.
unfoldable pub signalled : Router → Facts → Facts
signalled r s = fold (tried r) s s.tunnels

-- the error is the last that came for one of the tunnel's LSPs
abbrev pub noted : ErrorSpec → Tunnel → Tunnel
noted e tunnel = record tunnel { noted = Some (record { node = e.node; code = e.code; value = e.value }) }

-- and so of the tunnel of a number, if there is one
abbrev pub with_noted : ErrorSpec → ℕ → Facts → Facts
with_noted e number s = option_map_or (λ tunnel. with_tunnel number (noted e tunnel) s) (find nat_cmp number s.tunnels) s
