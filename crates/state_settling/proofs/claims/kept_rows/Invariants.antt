use Rattle.std.proofs.Common.{◌≡◌, ◌++◌, length, map, reverse}
use Rattle.sorted_rows.specs.Edits.{edited}
use Rattle.lsr_facts.specs.Orders.{key_cmp}
use Rattle.state_settling.specs.Keeping.{kept_edit}
use Rattle.state_settling.proofs.claims.kept_rows.Given as goal

-- those that are there, and behind them those that are left, from the last on
abbrev pub invariant-loop-key : goal.invariant-loop-key
invariant-loop-key g l =
    let paths = edited key_cmp l.fn.paths (g.V.StateView.state l.fn.view).facts.paths in
    l.edits.items ++ map (kept_edit paths) (reverse l.resvs.items) ≡ map (kept_edit paths) l.fn.resvs.items

abbrev pub decreases-loop-key : goal.decreases-loop-key
decreases-loop-key g l = length l.resvs.items
