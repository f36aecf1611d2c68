use Rattle.std.proofs.Common.{◌∙◌, [], ap, subst, sym}
use Rattle.std.proofs.lemmas.Result.{IfOk-weaker}
use Rattle.lookup_plane.specs.Published.{IsWriting}
use Rattle.lookup_plane.specs.declared.rule.View.{View}
use Rattle.lookup_plane.specs.declared.slots.Slots.{Slots}
use Rattle.lookup_plane.proofs.Turns.{opens, writes_opening}
use Rattle.lookup_plane.proofs.plane.open.Goals as goal

pub new-requires-3-clause-alike : goal.new-requires-3-clause-alike
new-requires-3-clause-alike c = c.in_ok-first.ensures ∙ sym c.in_ok-second.ensures

pub new-requires-3-clause-rule : goal.new-requires-3-clause-rule
new-requires-3-clause-rule c = opens _ _ _ c.in_ok-first.ensures

pub returns : goal.returns
returns c =
    let first = c.args.first_label in
    let last = c.args.last_label in
    IfOk-weaker c.new-3.result _ _ (λ w is.
    (subst (λ (x : Slots). IsWriting first last x [] []) (sym is.0) (writes_opening c.in_ok-first.first first last c.requires.labels.0 c.in_ok-first.ensures), ap (λ (v : View). v.seen) is.2, is.1))
    c.new-3.ensures
