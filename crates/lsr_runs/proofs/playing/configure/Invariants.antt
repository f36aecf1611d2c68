-- The texts so far say these configurations.
use Rattle.std.proofs.Common.{map, string_bytes, take}
use Rattle.lsr_runs.specs.Playing.{AreSaid}
use Rattle.lsr_runs.proofs.playing.configure.Given as goal

abbrev pub invariant-loop-named : goal.invariant-loop-named
invariant-loop-named l = AreSaid (map (λ named. string_bytes named.text) (take l.named-index l.texts)) l.configs.items
