use Rattle.std.proofs.Common.{◌≡◌, ◌++◌, [], filter_map, length, reverse, Some}
use Rattle.std.specs.Option.{option_map}
use Rattle.state_sends.specs.Going.{going}
use Rattle.state_sends.specs.Placing.{placed}
use Rattle.state_sends.proofs.again.all_going.Given as goal

-- what is there, and then what comes of the rows that are left, from the last on
abbrev pub invariant-loop-row : goal.invariant-loop-row
invariant-loop-row g l =
    let cmp = g.I.Ord.cmp in
    (l.sends ++ filter_map (λ row. option_map (λ r. r.1) (going cmp l.due row)) (reverse l.left.items) ≡ filter_map (λ row. option_map (λ r. r.1) (going cmp l.due row)) l.fn.is.items)
    × (placed cmp l.moments (filter_map (λ row. option_map (λ r. (r.0, Some l.moment)) (going cmp l.due row)) (reverse l.left.items)) ≡ placed cmp [] (filter_map (λ row. option_map (λ r. (r.0, Some l.moment)) (going cmp l.due row)) l.fn.is.items))

abbrev pub decreases-loop-row : goal.decreases-loop-row
decreases-loop-row g l = length l.left.items
