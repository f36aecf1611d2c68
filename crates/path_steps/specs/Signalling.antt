-- The paths that tunnels' LSPs get at a moment.
use Rattle.std.specs.Prelude.{◌≡◌, ◌||◌, ℕ, Bool, true, length, [], Option, Some, None, is_some}
use Rattle.std.specs.FinMap.Entries.{find}
use Rattle.std.specs.List.{AllByRecursion}
use Rattle.lsr_facts.specs.Orders.{key_cmp}
use Rattle.lsr_facts.specs.Tunnels.{current_key}
use Rattle.lsr_facts.specs.declared.facts.Facts.{Facts}
use Rattle.lsr_facts.specs.declared.key.Key.{Key}
use Rattle.lsr_facts.specs.declared.path_fact.PathFact.{PathFact}
use Rattle.lsr_facts.specs.declared.router.Router.{Router}
use Rattle.lsr_facts.specs.declared.tunnel.Tunnel.{Tunnel}
use Rattle.abstract_paths.specs.Changes.{with_path}
use Rattle.abstract_paths.specs.Heads.{is_full}
use Rattle.abstract_router.specs.States.{State}
use Rattle.state_views.specs.Edits.{edited}
use Rattle.state_views.specs.declared.edits.Edits.{Edits}
use Rattle.path_steps.specs.declared.signals.Counted.{Counted}

-- a path is put, if there is one
abbrev pub with_some : Option (Key × PathFact) → Facts → Facts
with_some None s = s
with_some (Some path) s = with_path path.0 path.1 s

-- there is no room for another path, or the tunnel's current LSP has one
abbrev pub is_passed_over : Router → Facts → ℕ × Tunnel → Bool
is_passed_over r s tunnel = is_full s || is_some (find key_cmp (current_key r tunnel) s.paths)

-- The edits are of paths that are known, and of no tunnel.
pub record AreOfKnown (e : Edits) (s : State) : Type 0 where
  pub tunnels : e.tunnels ≡ []
  pub paths : AllByRecursion (λ edit. is_some (find key_cmp edit.0 s.facts.paths) ≡ true) e.paths

-- so many paths are known after the edits as are counted
abbrev pub IsCounted : Counted → State → Type 0
IsCounted so_far s = so_far.count ≡ length (edited so_far.edits s).facts.paths
