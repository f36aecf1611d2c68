-- By what a step makes of labels.
use Rattle.label_laws.proofs.Given.{held_or_chosen}
use Rattle.label_laws.proofs.held.each_label_was_held_or_chosen.Goals as goal

pub returns : goal.returns
returns c = held_or_chosen
