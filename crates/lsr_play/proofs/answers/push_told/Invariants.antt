-- The lines of the answer and of the frames so far.
use Rattle.std.proofs.Common.{◌≡◌, ◌++◌, string_bytes}
use Rattle.lsr_play.specs.Answers.{answer_text, frames_text}
use Rattle.lsr_play.specs.Declaring.{name_at}
use Rattle.lsr_play.proofs.answers.push_told.Given as goal

abbrev pub invariant-loop-count : goal.invariant-loop-count
invariant-loop-count l =
    string_bytes l.text ≡ string_bytes l.fn.text ++ (answer_text (name_at l.declared.names l.told.router) l.told.answer
    ++ frames_text (name_at l.declared.names l.told.router) l.world.frames l.told.first l.count)
