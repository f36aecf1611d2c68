use Rattle.label_space.specs.LabelLaws.{none_given}
use Rattle.label_space.proofs.laws.none_is_given_where_each_is_held_or_rests.Goals as goal

pub returns : goal.returns
returns c = none_given
