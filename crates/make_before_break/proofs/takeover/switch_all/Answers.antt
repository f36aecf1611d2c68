-- The last of those that are left goes over.
use Rattle.std.proofs.Common.{◌≡◌, ℕ, ◌∷◌, [], ◌++◌, rules, ap, sym, ◌∙◌}
use Rattle.lsr_facts.specs.declared.tunnel.Tunnel.{Tunnel}
use Rattle.state_views.specs.declared.edits.Edits.{Edits}
use Rattle.make_before_break.specs.Switching.{with_all_switched}
use Rattle.make_before_break.specs.SwitchingLaws.{switched_last}
use Rattle.make_before_break.proofs.takeover.switch_all.Goals as goal

pub loop-number-preserved : goal.loop-number-preserved
loop-number-preserved c =
    let r = c.args.router.now in
    let last : ℕ × Tunnel = (c.in-Some.number, c.in-Some.tunnel) in
    let left = c.pop.new.self.items in
    let popped : c.loop-number.tunnels.items ≡ left ++ last ∷ [] = search rules in
    ap (λ (e : Edits). with_all_switched r e left) c.in_ok-switch_one.ensures
    ∙ sym (switched_last r c.loop-number.edits left last)
    ∙ ap (with_all_switched r c.loop-number.edits) (sym popped)
    ∙ c.loop-number.invariant
