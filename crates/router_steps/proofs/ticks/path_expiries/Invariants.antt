use Rattle.std.proofs.Common.{◌≡◌, filter_map, take}
use Rattle.router_steps.specs.Expiring.{expiry_at}
use Rattle.router_steps.proofs.ticks.path_expiries.Given as goal

-- so many LSPs are asked what is left of their paths
abbrev pub invariant-loop-key : goal.invariant-loop-key
invariant-loop-key g l = l.edits.items ≡ filter_map (expiry_at l.moment (g.V.StateView.state l.fn.view).facts.paths) (take l.key-index l.key-items)
