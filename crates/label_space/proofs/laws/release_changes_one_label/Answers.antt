use Rattle.label_space.specs.LabelLaws.{IsFree-release, IsFree-release_others, IsHeld-release, rests-release}
use Rattle.label_space.proofs.laws.release_changes_one_label.Goals as goal

pub returns-clause-held : goal.returns-clause-held
returns-clause-held c = IsHeld-release

pub returns-clause-free : goal.returns-clause-free
returns-clause-free c = IsFree-release

pub returns-clause-resting : goal.returns-clause-resting
returns-clause-resting c = rests-release

pub returns-clause-others : goal.returns-clause-others
returns-clause-others c = IsFree-release_others
