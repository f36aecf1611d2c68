use Rattle.std.proofs.Common.{◌≡◌, sym, subst}
use Rattle.label_space.specs.Bindings.{Bindings}
use Rattle.label_space.specs.Turns.{MayHold}
use Rattle.label_space.proofs.Binding.{bound-hold, free_to}
use Rattle.label_space.proofs.bindings.LabelBindings.hold.Goals as goal

pub invariant_of-self : goal.invariant_of-self
invariant_of-self c =
    let may = subst (λ (b : Bindings). MayHold b.range c.args.key c.args.label b.labels b.resting) (sym c.self.view_is) c.requires in
    rw (c.hold.ensures.labels, c.set.ensures) (bound-hold c.self.inside.space c.self.inside.by_lsp c.self.invariant c.args.key c.args.label may.new may.own may.free)

pub hold-requires : goal.hold-requires
hold-requires c =
    let may = subst (λ (b : Bindings). MayHold b.range c.args.key c.args.label b.labels b.resting) (sym c.self.view_is) c.requires in
    free_to c.self.inside.space c.self.inside.by_lsp c.self.invariant c.args.label may.own may.free
