-- The lines of the reply and of the outputs so far.
use Rattle.std.proofs.Common.{◌≡◌, ◌++◌, take, string_bytes}
use Rattle.std.specs.List.{flat_map}
use Rattle.lsr_text.specs.Answers.{output_line, reply_line}
use Rattle.lsr_text.proofs.answers.made_text.Given as goal

abbrev pub invariant-loop-output : goal.invariant-loop-output
invariant-loop-output l = string_bytes l.text ≡ reply_line l.made.reply ++ flat_map output_line (take l.output-index l.made.outputs)
