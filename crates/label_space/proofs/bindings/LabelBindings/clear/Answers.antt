use Rattle.label_space.proofs.Binding.{bound-end_rests}
use Rattle.label_space.proofs.bindings.LabelBindings.clear.Goals as goal

pub release_held-requires : goal.release_held-requires
release_held-requires c = rw c.end_rests.ensures (bound-end_rests c.self.inside.space c.self.inside.by_lsp c.self.invariant)
