use Rattle.std.proofs.Common.{subst}
use Rattle.label_space.specs.Labels.{IsLabelSpace}
use Rattle.label_space.proofs.Giving.{bound_new}
use Rattle.label_space.proofs.bindings.LabelBindings.new.Goals as goal

pub invariant_of-result : goal.invariant_of-result
invariant_of-result c =
    rw (c.in_ok-new.ensures, c.in_ok-new-2.ensures.labels) (bound_new c.args.range c.requires (subst IsLabelSpace c.in_ok-new-2.ensures.labels c.in_ok-new-2.ensures.space))
