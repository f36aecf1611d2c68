-- One more frame is told of.
use Rattle.std.proofs.Common.{◌≡◌, ◌+◌, ◌++◌, ℕ, List, string_bytes, subst}
use Rattle.lsr_play.specs.Answers.{answer_text, frame_text}
use Rattle.lsr_play.specs.Declaring.{name_at}
use Rattle.lsr_play.proofs.AnswerLaws.{told_more}
use Rattle.lsr_play.proofs.answers.push_told.Goals as goal

pub loop-count-preserved : goal.loop-count-preserved
loop-count-preserved c =
    let told = c.args.told.now in
    let frames = c.args.world.now.frames in
    let name = name_at c.args.declared.now.names told.router in
    let text = string_bytes c.loop-count.text in
    let after = string_bytes c.push_frame.new.text in
    let grown = subst (λ (n : List ℕ). after ≡ text ++ frame_text n frames (told.first + c.loop-count.count)) c.name_at-name.ensures c.in_ok-push_frame.ensures in
    told_more (string_bytes c.args.text.now) (answer_text name told.answer) text after name frames told.first c.loop-count.count c.loop-count.invariant grown
