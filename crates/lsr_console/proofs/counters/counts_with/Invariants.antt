-- The counts so far and those of the other ports are all.
use Rattle.std.proofs.Common.{◌≡◌, ◌++◌, drop, map}
use Rattle.std.specs.List.{enumerate_from}
use Rattle.lsr_console.specs.Counters.{counted_in}
use Rattle.lsr_console.proofs.counters.counts_with.Given as goal

abbrev pub invariant-loop-place : goal.invariant-loop-place
invariant-loop-place l = l.counts.items ++ map (counted_in l.before) (enumerate_from l.place (drop l.place l.round)) ≡ map (counted_in l.before) (enumerate_from 0 l.round)
