-- One LSP, and what all LSPs share. All messages that the state wants sent are functions of the two.
use Rattle.std.specs.Prelude.{ℕ, List, map, Option}
use Rattle.std.specs.FinMap.Entries.{find}
use Rattle.std.specs.Option.{option_map, option_or}
use Rattle.lsr_facts.specs.Orders.{key_cmp}
use Rattle.lsr_facts.specs.Timeless.{timeless_path}
use Rattle.lsr_facts.specs.declared.assignment.Assignment.{Assignment}
use Rattle.lsr_facts.specs.declared.key.Key.{Key}
use Rattle.lsr_facts.specs.declared.path_fact.PathFact.{PathFact}
use Rattle.lsr_facts.specs.declared.router.Router.{Router}
use Rattle.lsr_facts.specs.Reservations.{timeless_repair, timeless_resv}
use Rattle.lsr_facts.specs.declared.repair.BypassTunnel.{BypassTunnel}
use Rattle.lsr_facts.specs.declared.repair.Repair.{Repair}
use Rattle.lsr_facts.specs.declared.resv_fact.ResvFact.{ResvFact}
use Rattle.abstract_paths.specs.Places.{Place, place_of}
use Rattle.abstract_router.specs.BypassTunnels.{bypass_tunnels_of}
use Rattle.abstract_router.specs.States.{State}

-- All that is known of one LSP but its key, and but for when it expires: its path, and its label, its reservation, its
-- repair and what it is promised of a bypass if it has them.
pub record Lsp : Type 0 where
  pub path : PathFact
  pub label : Option ℕ
  pub resv : Option ResvFact
  pub repair : Option Repair
  pub assignment : Option Assignment

-- What all LSPs share: where the router stands, with its links that are up and its static routes, and its bypasses.
pub record Around : Type 0 where
  pub place : Place
  pub bypass_tunnels : List (ℕ × BypassTunnel)

-- by what is known
abbrev pub around_of : Router → State → Around
around_of r s = record { place = place_of r s.facts; bypass_tunnels = bypass_tunnels_of r s }

-- the LSP whose path this is
abbrev pub lsp_of : State → Key → PathFact → Lsp
lsp_of s key path = record {
  path = timeless_path path;
  label = find key_cmp key s.labels;
  resv = option_map timeless_resv (find key_cmp key s.resvs);
  repair = option_map timeless_repair (find key_cmp key s.repairs);
  assignment = find key_cmp key s.assignments;
}

-- what holds its label at the router after it: its reservation, or what its repair keeps of it
abbrev pub held_of : Lsp → Option ResvFact
held_of lsp = option_or lsp.resv (option_map (λ repair. repair.resv) lsp.repair)

-- the LSP of a key, if it is known
abbrev pub lsp_at : State → Key → Option Lsp
lsp_at s key = option_map (lsp_of s key) (find key_cmp key s.facts.paths)

-- all LSPs, in the order of their keys
unfoldable pub lsps_of : State → List (Key × Lsp)
lsps_of s = map (λ row. (row.0, lsp_of s row.0 row.1)) s.facts.paths
