-- The changes that events are made of. Each names the tables that it changes; all else stays.
use Rattle.std.specs.Prelude.{ℕ, not, Bool, List}
use Rattle.std.specs.FinMap.Entries.{put, where_key}
use Rattle.std.specs.Ordering.{is_eq, nat_cmp}
use Rattle.rsvp_bodies.specs.declared.prefix.Prefix.{Prefix}
use Rattle.lsr_facts.specs.Orders.{is_one_of, key_cmp, prefix_cmp}
use Rattle.lsr_facts.specs.declared.bypass.Bypass.{Bypass}
use Rattle.lsr_facts.specs.declared.facts.Facts.{Facts}
use Rattle.lsr_facts.specs.declared.key.Key.{Key}
use Rattle.lsr_facts.specs.declared.path_fact.PathFact.{PathFact}
use Rattle.lsr_facts.specs.declared.tunnel.Tunnel.{Tunnel}

-- the path of an LSP is put
abbrev pub with_path : Key → PathFact → Facts → Facts
with_path key fact s = record s { paths = put key_cmp key fact s.paths }

-- the path of an LSP goes
abbrev pub without_path : Key → Facts → Facts
without_path key s = record s { paths = where_key key_cmp (λ k. not (is_eq (key_cmp key k))) s.paths }

-- the link is up from now on, or it is down
abbrev pub with_link : ℕ → Bool → Facts → Facts
with_link number is_up s = record s { up = put nat_cmp number is_up s.up }

-- the paths of these LSPs go
abbrev pub without_paths : List Key → Facts → Facts
without_paths keys s = record s { paths = where_key key_cmp (λ k. not (is_one_of keys k)) s.paths }

-- the tunnel of a number is put
abbrev pub with_tunnel : ℕ → Tunnel → Facts → Facts
with_tunnel number tunnel s = record s { tunnels = put nat_cmp number tunnel s.tunnels }

-- the tunnel of a number goes
abbrev pub without_tunnel : ℕ → Facts → Facts
without_tunnel number s = record s { tunnels = where_key nat_cmp (λ k. not (is_eq (nat_cmp number k))) s.tunnels }

-- the bypass of a number is put
abbrev pub with_bypass : ℕ → Bypass → Facts → Facts
with_bypass number bypass s = record s { bypasses = put nat_cmp number bypass s.bypasses }

-- the bypass of a number goes
abbrev pub without_bypass : ℕ → Facts → Facts
without_bypass number s = record s { bypasses = where_key nat_cmp (λ k. not (is_eq (nat_cmp number k))) s.bypasses }

-- what goes to these addresses leaves by the link
abbrev pub with_route : Prefix → ℕ → Facts → Facts
with_route prefix link s = record s { routes = put prefix_cmp prefix link s.routes }

-- the static route to these addresses goes
abbrev pub without_route : Prefix → Facts → Facts
without_route prefix s = record s { routes = where_key prefix_cmp (λ k. not (is_eq (prefix_cmp prefix k))) s.routes }
