use Rattle.std.proofs.Common.{◌≡◌, map}
use Rattle.abstract_router.specs.Repairing.{put_repair}
use Rattle.state_settling.proofs.repair.puts_of.Given as goal

-- so many are put
abbrev pub invariant-loop-key : goal.invariant-loop-key
invariant-loop-key l = l.puts.items ≡ map put_repair l.yielded
