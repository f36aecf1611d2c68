-- The bypass of a number is found, or there is none.
use Rattle.std.proofs.Common.{◌≡◌, ◌&&◌, T, List, ℕ, Some, true, false, ap, is_some, subst, sym, ◌∙◌}
use Rattle.std.specs.FinMap.Entries.{find, is_sorted}
use Rattle.std.specs.Ordering.{nat_cmp}
use Rattle.lsr_facts.specs.declared.repair.BypassTunnel.{BypassTunnel}
use Rattle.abstract_router.specs.Lsps.{around_of}
use Rattle.abstract_router.specs.Protecting.{is_protected, selected_by}
use Rattle.bandwidth_protection.proofs.Rounds.{may_have, may_have_none}
use Rattle.bandwidth_protection.proofs.keeping.may_have.Goals as goal

pub returns-then-is_protected : goal.returns-then-is_protected
returns-then-is_protected g c =
    let r = g.A.StateView.router c.args.after.now in
    let s = g.A.StateView.state c.args.after.now in
    let number = c.args.number in
    let resv = c.args.resv.now in
    let bypass_tunnel = c.in-Some.bypass_tunnel in
    let order = subst (λ (rows : List (ℕ × BypassTunnel)). T (is_sorted nat_cmp rows)) c.requires.all c.requires.order in
    let found = sym (c.get.ensures.found ∙ ap (find nat_cmp number) c.requires.all) ∙ c.in-Some.is in
    let protected : is_protected (around_of r s) c.args.key.now c.args.path.now ≡ true = sym c.is_protected.ensures ∙ c.if-is_protected.true in
    c.is_some.ensures ∙ ap is_some c.selected_by.ensures
    ∙ (λ i. is_some (selected_by (c.node.ensures.router i) resv (number, bypass_tunnel)))
    ∙ sym (ap (λ b. b && is_some (selected_by r resv (number, bypass_tunnel))) protected)
    ∙ may_have r s number c.args.key.now c.args.path.now resv order (Some bypass_tunnel) found

pub returns-else-is_protected : goal.returns-else-is_protected
returns-else-is_protected g c =
    let r = g.A.StateView.router c.args.after.now in
    let s = g.A.StateView.state c.args.after.now in
    let number = c.args.number in
    let resv = c.args.resv.now in
    let bypass_tunnel = c.in-Some.bypass_tunnel in
    let order = subst (λ (rows : List (ℕ × BypassTunnel)). T (is_sorted nat_cmp rows)) c.requires.all c.requires.order in
    let found = sym (c.get.ensures.found ∙ ap (find nat_cmp number) c.requires.all) ∙ c.in-Some.is in
    let isnt : is_protected (around_of r s) c.args.key.now c.args.path.now ≡ false = sym c.is_protected.ensures ∙ c.if-is_protected.false in
    c.if-is_protected.false
    ∙ sym (ap (λ b. b && is_some (selected_by r resv (number, bypass_tunnel))) isnt)
    ∙ may_have r s number c.args.key.now c.args.path.now resv order (Some bypass_tunnel) found

pub returns-in-None : goal.returns-in-None
returns-in-None g c =
    let r = g.A.StateView.router c.args.after.now in
    let s = g.A.StateView.state c.args.after.now in
    let order = subst (λ (rows : List (ℕ × BypassTunnel)). T (is_sorted nat_cmp rows)) c.requires.all c.requires.order in
    let none = sym (c.get.ensures.found ∙ ap (find nat_cmp c.args.number) c.requires.all) ∙ c.in-None.is in
    may_have_none r s c.args.number c.args.key.now c.args.path.now c.args.resv.now order none
