-- The lines of the replies so far, behind what there was.
use Rattle.std.proofs.Common.{◌≡◌, ◌++◌, take, string_bytes}
use Rattle.lsr_text.specs.Answers.{replies_text}
use Rattle.lsr_text.proofs.answers.push_replies.Given as goal

abbrev pub invariant-loop-reply : goal.invariant-loop-reply
invariant-loop-reply l = string_bytes l.text ≡ string_bytes l.fn.text ++ replies_text (take l.reply-index l.replies)
