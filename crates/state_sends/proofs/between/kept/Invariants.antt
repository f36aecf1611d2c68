use Rattle.std.proofs.Common.{◌≡◌, ◌++◌, filter_map, length, reverse}
use Rattle.std.specs.FinMap.Entries.{find}
use Rattle.abstract_paths.specs.Outputs.{send_for}
use Rattle.abstract_paths.specs.Touched.{renewed_moment}
use Rattle.state_sends.specs.Placing.{placed}
use Rattle.state_sends.proofs.between.kept.Given as goal

-- what is there, and then what comes of the rows that are left, from the last on
abbrev pub invariant-loop-wants : goal.invariant-loop-wants
invariant-loop-wants g l =
    let cmp = g.I.Ord.cmp in
    let due = l.due in
    (l.sends ++ filter_map (λ row. send_for cmp due (find cmp row.0 l.was) row) (reverse l.left.items) ≡ l.fn.torn.sends ++ filter_map (λ row. send_for cmp due (find cmp row.0 l.was) row) l.fn.is.items)
    × (placed cmp l.moments (filter_map (λ row. renewed_moment cmp due l.moment (find cmp row.0 l.was) row) (reverse l.left.items)) ≡ placed cmp l.fn.torn.moments (filter_map (λ row. renewed_moment cmp due l.moment (find cmp row.0 l.was) row) l.fn.is.items))

abbrev pub decreases-loop-wants : goal.decreases-loop-wants
decreases-loop-wants g l = length l.left.items
