-- Local repair: what a lost link takes away goes on over bypasses (RFC 4090, 6.4 and 6.5).
use Rattle.std.specs.Prelude.{ℕ, ◌&&◌, not, Bool, false, if◌then◌else◌, List, [], filter_map, map, is_some, Option, Some, None}
use Rattle.sorted_rows.specs.Edits as rows
use Rattle.std.specs.FinMap.Entries.{find}
use Rattle.std.specs.List.{flat_map}
use Rattle.std.specs.Option.{option_and_then, option_map, option_map_or}
use Rattle.lsr_facts.specs.Orders.{key_cmp}
use Rattle.lsr_facts.specs.declared.key.Key.{Key}
use Rattle.lsr_facts.specs.declared.path_fact.PathFact.{PathFact}
use Rattle.lsr_facts.specs.declared.router.Router.{Router}
use Rattle.lsr_facts.specs.declared.repair.Repair.{Repair}
use Rattle.lsr_facts.specs.declared.resv_fact.ResvFact.{ResvFact}
use Rattle.abstract_paths.specs.declared.events.Output.{Output}
use Rattle.abstract_paths.specs.Outcomes.{found_here, told_upstream}
use Rattle.abstract_paths.specs.Places.{is_up, place_of}
use Rattle.abstract_paths.specs.Tears.{leaves_by}
use Rattle.abstract_router.specs.BypassTunnels.{bypass_tunnels_of, over_at}
use Rattle.lsr_facts.specs.Errors.{locally_repaired}
use Rattle.abstract_router.specs.Lsps.{around_of}
use Rattle.abstract_router.specs.Protecting.{repair_with, selected}
use Rattle.abstract_router.specs.States.{State, with_repairs_where}

-- how an LSP of this path goes on that is reserved on a link that is down: over the bypass that is selected
abbrev pub repair_on : Router → State → Key → ResvFact → PathFact → Option Repair
repair_on r s key resv path =
    if leaves_by resv.link path && not (is_up s.facts.up resv.link) then option_map (repair_with resv) (selected (around_of r s) key path (find key_cmp key s.assignments) resv) else None

-- the repair of a reservation, if there is to be one
abbrev pub repair_of : Router → State → Key × ResvFact → Option Repair
repair_of r s resv = option_and_then (repair_on r s resv.0 resv.1) (find key_cmp resv.0 s.facts.paths)

-- all repairs that there are to be, in the order of their keys
unfoldable pub new_repairs : Router → State → List (Key × Repair)
new_repairs r s = filter_map (λ resv. option_map (λ repair. (resv.0, repair)) (repair_of r s resv)) s.resvs

-- a repair as an edit of the repairs
abbrev pub put_repair : Key × Repair → Key × Option Repair
put_repair repair = (repair.0, Some repair.1)

-- What a lost link takes away is repaired at once (RFC 4090, 6.4).
unfoldable pub repaired : Router → State → State
repaired r s = record s { repairs = rows.edited key_cmp (map put_repair (new_repairs r s)) s.repairs }

-- The origins of a repaired LSP are told that it runs over a bypass (RFC 4090, 6.5).
abbrev pub told_of : Router → State → Key × Repair → List Output
told_of r s repair =
    option_map_or (λ path. told_upstream (place_of r s.facts) repair.0 path (Some path.tspec) (found_here r locally_repaired)) (find key_cmp repair.0 s.facts.paths) []

-- the errors that repair tells, in the order of the keys
unfoldable pub told_repaired : Router → State → List Output
told_repaired r s = flat_map (told_of r s) (new_repairs r s)

-- A repair stands where its bypass is up, and its path leaves by the link that it protects.
abbrev pub repair_stands : Router → State → Key × Repair → Bool
repair_stands r s repair =
    is_some (over_at (bypass_tunnels_of r s) repair.1.bypass)
    && option_map_or (leaves_by repair.1.resv.link) (find key_cmp repair.0 s.facts.paths) false

-- the repairs that stand are left
unfoldable pub repairs_left : Router → State → State
repairs_left r s = with_repairs_where (repair_stands r s) s
