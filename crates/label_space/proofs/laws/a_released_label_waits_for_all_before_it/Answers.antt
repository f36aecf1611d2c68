use Rattle.label_space.specs.LabelLaws.{waits_for_all}
use Rattle.label_space.proofs.laws.a_released_label_waits_for_all_before_it.Goals as goal

pub returns : goal.returns
returns c = waits_for_all
