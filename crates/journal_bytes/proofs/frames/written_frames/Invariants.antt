use Rattle.std.proofs.Common.{◌≡◌, map, take}
use Rattle.journal_bytes.specs.Entries.{written_frame}
use Rattle.journal_bytes.proofs.frames.written_frames.Given as goal

-- so many are written
abbrev pub invariant-loop-output : goal.invariant-loop-output
invariant-loop-output l = l.frames.items ≡ map written_frame (take l.output-index l.outputs)
