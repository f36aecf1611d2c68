-- The lines of the frames before this one were appended.
use Rattle.std.proofs.Common.{◌≡◌, ◌++◌, string_bytes, take}
use Rattle.std.specs.Prelude.{flat_map}
use Rattle.lsr_console.specs.Answers.{frame_line}
use Rattle.lsr_console.proofs.feeding.push_frames.Given as goal

abbrev pub invariant-loop-frame : goal.invariant-loop-frame
invariant-loop-frame l = string_bytes l.text ≡ string_bytes l.fn.text ++ flat_map frame_line (take l.frame-index l.frames)
