-- One after the other.
use Rattle.std.proofs.Common.{codes}
use Rattle.lsr_explain.specs.Answers.{section_text}
use Rattle.lsr_explain.specs.declared.topics.Kind.TheVariants as kinds
use Rattle.lsr_explain.proofs.Printing.{appends_last}
use Rattle.lsr_explain.proofs.telling.put_faults.Goals as goal

pub returns : goal.returns
returns g c =
    appends_last c.put_section-3.result _ _ _ _ (section_text (codes "Faults of a configuration (config FAULT KEY), by FAULT:\n") kinds.ConfigFault) (section_text (codes "Faults of a recorded run (entry N: FAULT), by FAULT:\n") kinds.RunFault)
    (section_text (codes "What else ends a run, by its first word:\n") kinds.Ending) c.in_ok-put_section.ensures c.in_ok-put_section-2.ensures c.put_section-3.ensures
