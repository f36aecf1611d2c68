-- What is printed for the answer to an event or a datagram.
use Rattle.std.specs.Prelude.{ℕ, List, ◌++◌, codes, flat_map, Result, Ok, Err}
use Rattle.std.specs.Fmt.{decimal}
use Rattle.abstract_paths.specs.declared.events.Made.{Made}
use Rattle.abstract_paths.specs.declared.events.Output.{Output}
use Rattle.lsr_facts.specs.declared.refusal.Refusal.{Refusal}
use Rattle.lsr_facts.specs.declared.reply.Reply.{Reply}
use Rattle.lsr_facts.specs.declared.reply.Reply.TheVariants as replies
use Rattle.lsr_facts.specs.Refusals.{number_of}
use Rattle.lsr_text.specs.FrameLines.{sent_line}
use Rattle.lsr_text.specs.Names.{name_of}

-- `refused N NAME`
abbrev pub refusal_line : Refusal → List ℕ
refusal_line refusal = codes "refused " ++ (decimal (number_of refusal) ++ (codes " " ++ (name_of refusal ++ codes "\n")))

-- `done`, `error CODE VALUE` or `refused N NAME`
abbrev pub reply_line : Reply → List ℕ
reply_line replies.Done = codes "done\n"
reply_line (replies.Error e) = codes "error " ++ (decimal e.code ++ (codes " " ++ (decimal e.value ++ codes "\n")))
reply_line (replies.Refused refusal) = refusal_line refusal

-- the line of a frame that is sent
abbrev pub output_line : Output → List ℕ
output_line o = sent_line o.link o.frame

-- a line for each reply, in order
abbrev pub replies_text : List Reply → List ℕ
replies_text replies = flat_map reply_line replies

-- the reply, and after it what is sent, in order
abbrev pub answer_text : Result Made Refusal → List ℕ
answer_text (Ok e) = reply_line e.reply ++ flat_map output_line e.outputs
answer_text (Err refusal) = refusal_line refusal
