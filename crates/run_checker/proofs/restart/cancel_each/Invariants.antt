-- Of so many tunnels the changes are given up.
use Rattle.std.proofs.Common.{◌≡◌, ◌++◌, drop, take}
use Rattle.abstract_paths.specs.Restarts.{all_cancelled}
use Rattle.run_checker.proofs.restart.cancel_each.Given as goal

abbrev pub invariant-loop-tunnel : goal.invariant-loop-tunnel
invariant-loop-tunnel l = l.tunnel-items ≡ all_cancelled (take l.tunnel-index l.fn.tunnels.items) ++ drop l.tunnel-index l.fn.tunnels.items
