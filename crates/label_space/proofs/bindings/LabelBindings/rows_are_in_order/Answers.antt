use Rattle.std.proofs.Common.{subst}
use Rattle.label_space.specs.Bindings.{Bindings}
use Rattle.label_space.specs.Rests.{AreRestingOf}
use Rattle.label_space.proofs.Binding.{are_resting}
use Rattle.label_space.proofs.bindings.LabelBindings.rows_are_in_order.Goals as goal

pub returns-clause-resting : goal.returns-clause-resting
returns-clause-resting c =
    subst (λ (b : Bindings). AreRestingOf b.range b.moment b.labels b.resting) c.self.view_is (are_resting c.self.inside.space c.self.inside.by_lsp c.self.invariant)
