use Rattle.label_space.specs.LabelLaws.{IsFree-wake, IsHeld-wake, rests-wake}
use Rattle.label_space.proofs.laws.a_moment_wakes_what_is_over.Goals as goal

pub returns-clause-held : goal.returns-clause-held
returns-clause-held c = IsHeld-wake

pub returns-clause-free : goal.returns-clause-free
returns-clause-free c = IsFree-wake

pub returns-clause-resting : goal.returns-clause-resting
returns-clause-resting c = rests-wake
