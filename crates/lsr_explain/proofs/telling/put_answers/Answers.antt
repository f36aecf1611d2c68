-- One after the other.
use Rattle.std.proofs.Common.{codes}
use Rattle.lsr_explain.specs.Answers.{section_text}
use Rattle.lsr_explain.specs.declared.topics.Kind.TheVariants as kinds
use Rattle.lsr_explain.proofs.Printing.{appends_after}
use Rattle.lsr_explain.proofs.telling.put_answers.Goals as goal

pub returns : goal.returns
returns g c = appends_after c.put_section-2.result _ _ _ (section_text (codes "Refusals (refused N NAME), by number or name:\n") kinds.Refusal) (section_text (codes "Errors of RSVP (error CODE VALUE), by CODE/VALUE or name; N stands for any value:\n") kinds.RsvpError) c.in_ok-put_section.ensures c.put_section-2.ensures
