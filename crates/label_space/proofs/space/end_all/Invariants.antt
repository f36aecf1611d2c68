use Rattle.std.proofs.Common.{◌≡◌, ◌++◌, drop, map, min, take}
use Rattle.label_space.proofs.space.end_all.Given as goal

-- so many of the moments are changed
abbrev pub invariant-loop-until : goal.invariant-loop-until
invariant-loop-until l =
    l.until-items ≡ map (λ until. min until l.moment) (take l.until-index l.fn.untils.items) ++ drop l.until-index l.fn.untils.items
