use Rattle.label_space.specs.LabelLaws.{IsLabelSpace-end_rests, IsLabelSpace-hold, IsLabelSpace-release, IsLabelSpace-wake}
use Rattle.label_space.proofs.laws.changes_keep_the_space.Goals as goal

pub returns-clause-hold : goal.returns-clause-hold
returns-clause-hold c = IsLabelSpace-hold

pub returns-clause-release : goal.returns-clause-release
returns-clause-release c = IsLabelSpace-release

pub returns-clause-wake : goal.returns-clause-wake
returns-clause-wake c = IsLabelSpace-wake

pub returns-clause-end_rests : goal.returns-clause-end_rests
returns-clause-end_rests c = IsLabelSpace-end_rests
