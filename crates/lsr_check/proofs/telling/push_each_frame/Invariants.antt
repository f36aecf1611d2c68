-- The frames so far, after what there was.
use Rattle.std.proofs.Common.{◌≡◌, ◌++◌, take, string_bytes}
use Rattle.std.specs.List.{flat_map}
use Rattle.lsr_check.specs.Telling.{frame_line}
use Rattle.lsr_check.proofs.telling.push_each_frame.Given as goal

abbrev pub invariant-loop-frame : goal.invariant-loop-frame
invariant-loop-frame l = string_bytes l.text ≡ string_bytes l.fn.text ++ flat_map (frame_line l.word) (take l.frame-index l.frames)
