use Rattle.std.proofs.Common.{IfSome, is_some, sym, ap, subst, ◌∙◌}
use Rattle.label_space.specs.FreeLabels.{MayBeGiven, has_free_label}
use Rattle.label_space.specs.Bindings.{Bindings}
use Rattle.label_space.proofs.Giving.{given_may, given_where}
use Rattle.label_space.proofs.bindings.LabelBindings.free_label.Goals as goal

pub returns-clause-free : goal.returns-clause-free
returns-clause-free c = λ r same.
    ap is_some c.give.ensures.next
    ∙ given_where c.self.inside.space c.self.inside.by_lsp c.self.invariant r (same ∙ sym (ap (λ (b : Bindings). b.range) c.self.view_is))
    ∙ ap (λ (b : Bindings). has_free_label r b.labels b.resting) c.self.view_is

pub returns-clause-given : goal.returns-clause-given
returns-clause-given c = λ r same.
    subst (λ (b : Bindings). IfSome c.give.result (MayBeGiven r b.labels b.resting)) c.self.view_is
    (given_may c.self.inside.space c.self.inside.by_lsp c.self.invariant r (same ∙ sym (ap (λ (b : Bindings). b.range) c.self.view_is)) c.give.result c.give.ensures.free)
