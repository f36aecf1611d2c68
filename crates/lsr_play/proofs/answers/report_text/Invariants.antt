-- The lines of what was told so far.
use Rattle.std.proofs.Common.{◌≡◌, take, string_bytes}
use Rattle.lsr_play.specs.Answers.{report_text}
use Rattle.lsr_play.proofs.answers.report_text.Given as goal

abbrev pub invariant-loop-told : goal.invariant-loop-told
invariant-loop-told l = string_bytes l.text ≡ report_text l.declared.names l.world.frames (take l.told-index l.all)
