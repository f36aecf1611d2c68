-- What a label switching router knows, and the changes that events make of it.
pub use Rattle.lsr_facts.specs.declared.state.State.{State}
use Rattle.std.specs.Prelude.{◌||◌, not, Bool, List, [], filter, is_some}
use Rattle.std.specs.FinMap.Entries.{find, put}
pub use Rattle.lsr_facts.specs.Orders.{is_one_of}
use Rattle.lsr_facts.specs.Orders.{key_cmp}
use Rattle.lsr_facts.specs.declared.facts.Facts.{Facts}
use Rattle.lsr_facts.specs.declared.key.Key.{Key}
use Rattle.lsr_facts.specs.declared.repair.Repair.{Repair}
use Rattle.lsr_facts.specs.declared.resv_fact.ResvFact.{ResvFact}
use Rattle.lsr_facts.specs.declared.router.Router.{Router}
use Rattle.abstract_paths.specs.Restarts.{all_cancelled}

-- a router: what never changes of it, and what it knows
pub record RouterState : Type 0 where
  pub router : Router
  pub state : State

-- a state that knows these facts and nothing of LSPs beside their paths: none is reserved, repaired or labelled, no bandwidth of a
-- bypass is assigned, no label rests, and no Resv was sent
abbrev pub bare : Facts → State
bare facts = record { facts = facts; resvs = []; repairs = []; labels = []; assignments = []; resting = []; sent_upstream = [] }

-- what is left where all is lost that messages set up: the moment, links, static routes, tunnels and bypasses, but no change of a
-- tunnel
abbrev pub emptied : State → State
emptied s = bare (record s.facts { tunnels = all_cancelled s.facts.tunnels; paths = []; sent = [] })

-- what is known of links, routes, time and paths is replaced
abbrev pub with_facts : Facts → State → State
with_facts facts s = record s { facts = facts }

-- the LSP has a reservation
abbrev pub is_reserved : State → Key → Bool
is_reserved s key = is_some (find key_cmp key s.resvs)

-- it is repaired: it runs over a bypass
abbrev pub is_repaired : State → Key → Bool
is_repaired s key = is_some (find key_cmp key s.repairs)

-- one or the other
abbrev pub is_held : State → Key → Bool
is_held s key = is_reserved s key || is_repaired s key

-- the reservation of an LSP is put
abbrev pub with_resv : Key → ResvFact → State → State
with_resv key fact s = record s { resvs = put key_cmp key fact s.resvs }

-- the reservations that pass the test are kept
abbrev pub with_resvs_where : (Key × ResvFact → Bool) → State → State
with_resvs_where test s = record s { resvs = filter test s.resvs }

-- the reservations of these LSPs go
abbrev pub without_resvs : List Key → State → State
without_resvs keys s = with_resvs_where (λ resv. not (is_one_of keys resv.0)) s

-- the repairs that pass the test are kept
abbrev pub with_repairs_where : (Key × Repair → Bool) → State → State
with_repairs_where test s = record s { repairs = filter test s.repairs }

-- the repair of an LSP is put
abbrev pub with_repair : Key → Repair → State → State
with_repair key repair s = record s { repairs = put key_cmp key repair s.repairs }

-- the reservations and the repairs of these LSPs go
abbrev pub without_held : List Key → State → State
without_held keys s = with_repairs_where (λ repair. not (is_one_of keys repair.0)) (without_resvs keys s)
