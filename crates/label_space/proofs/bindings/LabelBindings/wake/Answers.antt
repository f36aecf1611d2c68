use Rattle.std.proofs.Common.{◌≡◌, ℕ, List, ap, max, sym, ◌∙◌}
use Rattle.label_space.specs.Bindings.{Bindings, by_label}
use Rattle.label_space.specs.Labels.{Labels}
use Rattle.label_space.specs.Rests.{resting_past}
use Rattle.label_space.proofs.Binding.{bound-wake, resting-wake}
use Rattle.label_space.proofs.bindings.LabelBindings.wake.Goals as goal

pub invariant_of-self : goal.invariant_of-self
invariant_of-self c = rw c.wake.ensures (bound-wake c.self.inside.space c.self.inside.by_lsp c.self.invariant c.args.now)

pub returns : goal.returns
returns c =
    let space = c.self.inside.space in
    let labels = c.self.inside.by_lsp in
    ap (λ (s : Labels). record { range = s.range; moment = s.moment; labels = labels; resting = by_label s.resting }) c.wake.ensures
    ∙ ap (λ (resting : List (ℕ × ℕ)). record { range = space.range; moment = max space.moment c.args.now; labels = labels; resting = resting }) (resting-wake space labels c.self.invariant c.args.now)
    ∙ ap (λ (b : Bindings). record { range = b.range; moment = max b.moment c.args.now; labels = b.labels; resting = resting_past c.args.now b.resting }) c.self.view_is
