-- A router that isn't started.
use Rattle.std.specs.Prelude.{◌≡◌, true, []}
pub use Rattle.router_tables.specs.States.{RouterState, emptied, opened}
use Rattle.abstract_router.specs.States.{State, bare}

-- the same router, not started yet
abbrev pub cold : RouterState → RouterState
cold s = record s { state = record s.state { facts = record s.state.facts { cold = true } } }

-- It knows nothing that messages set up: no path, nothing else of LSPs, and so nothing was sent.
pub record IsEmpty (s : State) : Type 0 where
  pub no_paths : s.facts.paths ≡ []
  pub nothing_sent : s.facts.sent ≡ []
  pub bare : s ≡ bare s.facts
