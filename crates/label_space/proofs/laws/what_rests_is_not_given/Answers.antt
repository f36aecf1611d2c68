use Rattle.label_space.specs.LabelLaws.{resting_not_given}
use Rattle.label_space.proofs.laws.what_rests_is_not_given.Goals as goal

pub returns : goal.returns
returns c = resting_not_given
