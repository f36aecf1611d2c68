-- Words that are taken, and ask for something or name nothing; and words that aren't.
use Rattle.std.proofs.Common.{inl, inr, refl}
use Rattle.lsr_tool.proofs.command.run_words.Goals as goal

pub returns-in-Ok-None : goal.returns-in-Ok-None
returns-in-Ok-None g c = inl (c.in-Ok-None.ensures.kinds, inr (rw c.in-Ok-None.field-0-is at c.in-Ok-None.ensures.asked, refl))
