use Rattle.std.proofs.Common.{◌≡◌, [], filter_map, take}
use Rattle.std.specs.FinMap.Entries.{find}
use Rattle.abstract_paths.specs.Outputs.{tear_for}
use Rattle.abstract_paths.specs.Touched.{forgotten}
use Rattle.state_sends.specs.Placing.{placed}
use Rattle.state_sends.proofs.between.torn.Given as goal

-- so many of what was wanted are torn down and forgotten, where they are wanted no more
abbrev pub invariant-loop-row : goal.invariant-loop-row
invariant-loop-row g l =
    (l.tears ≡ filter_map (λ row. tear_for l.up (find g.I.Ord.cmp row.0 l.is) row) (take l.row-index l.was))
    × (l.moments ≡ placed g.I.Ord.cmp [] (filter_map (λ row. forgotten (find g.I.Ord.cmp row.0 l.is) row) (take l.row-index l.was)))
