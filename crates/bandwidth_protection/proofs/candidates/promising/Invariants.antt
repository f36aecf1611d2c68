use Rattle.std.proofs.Common.{◌≡◌, filter_map, take}
use Rattle.bandwidth_protection.specs.Candidates.{promising_by}
use Rattle.bandwidth_protection.proofs.candidates.promising.Given as goal

-- so many bypasses are looked at
abbrev pub invariant-loop-bypass : goal.invariant-loop-bypass
invariant-loop-bypass g l = l.all.items ≡ filter_map (promising_by (g.A.StateView.router l.fn.after) (g.A.StateView.state l.fn.after)) (take l.bypass-index l.bypasses)
