use Rattle.std.proofs.Common.{◌≡◌, drop, map, not}
use Rattle.std.specs.List.{list_any}
use Rattle.abstract_paths.specs.Places.{is_own}
use Rattle.abstract_world.specs.Wires.{have_none_in_common}
use Rattle.lab_world.proofs.closed.have_none_in_common.Given as goal

-- the addresses so far are none of the other's
abbrev pub invariant-loop-row : goal.invariant-loop-row
invariant-loop-row l = have_none_in_common l.router l.other ≡ not (list_any (is_own l.other) (map (λ row. row.1.address) (drop l.row-index l.router.links)))
