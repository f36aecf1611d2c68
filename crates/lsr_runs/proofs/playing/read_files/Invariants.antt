-- The files that the lines before the rest name were read.
use Rattle.std.proofs.Common.{length, map, string_bytes}
use Rattle.lsr_runs.proofs.Worlds.{AreReadTo}
use Rattle.lsr_runs.proofs.playing.read_files.Given as goal

abbrev pub invariant-loop-name : goal.invariant-loop-name
invariant-loop-name g l =
    AreReadTo (g.F.FilesByName.opens l.files) g.F.File.ByteStream.stream l.text l.rest (map (λ named. named.name.now) l.texts.items) (map (λ named. string_bytes named.text) l.texts.items)

abbrev pub decreases-loop-name : goal.decreases-loop-name
decreases-loop-name g l = length l.rest
