use Rattle.label_space.specs.LabelLaws.{IsFree-hold, IsHeld-hold}
use Rattle.label_space.proofs.laws.hold_changes_one_label.Goals as goal

pub returns-clause-held : goal.returns-clause-held
returns-clause-held c = IsHeld-hold

pub returns-clause-others : goal.returns-clause-others
returns-clause-others c = IsFree-hold
