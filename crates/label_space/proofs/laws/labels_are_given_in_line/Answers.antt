use Rattle.label_space.specs.LabelLaws.{free-hold_first}
use Rattle.label_space.proofs.laws.labels_are_given_in_line.Goals as goal

pub returns : goal.returns
returns c = free-hold_first
