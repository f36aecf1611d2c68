use Rattle.std.proofs.Common.{rules, arith, false, None, ap, subst, sym, ◌≡◌, ◌∙◌, refl, vec_len}
use Rattle.std.proofs.lemmas.Bool.{eqb-false, eqb-true}
use Rattle.lsr_facts.specs.declared.reply.Reply.TheVariants as replies
use Rattle.abstract_router.specs.Outcomes.{Outcome}
use Rattle.state_views.specs.Drafts.{IsDraft}
use Rattle.state_views.specs.Edits.{edited}
use Rattle.state_views.specs.declared.edits.Edits.{Edits}
use Rattle.router_steps.specs.Onward.{passed_on}
use Rattle.router_steps.proofs.Onward.{err_speaks, none_onward, some_onward}
use Rattle.router_steps.proofs.resv_err.passed_on.Goals as goal

pub returns-in_err-onward-clause-memory : goal.returns-in_err-onward-clause-memory
returns-in_err-onward-clause-memory g c =
    let r = g.V.StateView.router c.args.view.now in
    let s = g.V.StateView.state c.args.view.now in
    let speaks : (passed_on r s c.args.over c.args.error.now).is_silent ≡ false = err_speaks r s c.args.over c.args.error.now c.in_err-onward.ensures.memory in
    search rules

pub returns-then-is_empty-clause-draft : goal.returns-then-is_empty-clause-draft
returns-then-is_empty-clause-draft g c =
    let r = g.V.StateView.router c.args.view.now in
    let s = g.V.StateView.state c.args.view.now in
    subst (λ (o : Outcome). IsDraft c.refused.result o r s)
    (none_onward r s c.args.over c.args.error.now c.in_ok-onward.onward.items c.in_ok-onward.ensures.told (omega (arith, c.in_ok-onward.onward.ok, eqb-true (vec_len c.in_ok-onward.onward) 0 (sym c.is_empty.ensures ∙ c.if-is_empty.true))))
    c.refused.ensures

pub returns-in_err-outputs_of-clause-memory : goal.returns-in_err-outputs_of-clause-memory
returns-in_err-outputs_of-clause-memory g c =
    let r = g.V.StateView.router c.args.view.now in
    let s = g.V.StateView.state c.args.view.now in
    let speaks : (passed_on r s c.args.over c.args.error.now).is_silent ≡ false = sym (ap (λ (o : Outcome). o.is_silent) (some_onward r s c.args.over c.args.error.now c.in_ok-onward.onward.items c.in_ok-onward.ensures.told (λ none. eqb-false (vec_len c.in_ok-onward.onward) 0 (sym c.is_empty.ensures ∙ c.if-is_empty.false) (omega (arith, c.in_ok-onward.onward.ok, none))))) in
    search rules

pub returns-clause-draft : goal.returns-clause-draft
returns-clause-draft g c =
    let r = g.V.StateView.router c.args.view.now in
    let s = g.V.StateView.state c.args.view.now in
    subst (λ (o : Outcome). IsDraft (record { reply = replies.Done; errors = c.in_ok-outputs_of.field-0; due = None; is_silent = false; edits = c.none.result }) o r s)
    (some_onward r s c.args.over c.args.error.now c.in_ok-onward.onward.items c.in_ok-onward.ensures.told (λ none. eqb-false (vec_len c.in_ok-onward.onward) 0 (sym c.is_empty.ensures ∙ c.if-is_empty.false) (omega (arith, c.in_ok-onward.onward.ok, none))))
    (record {
      reply = refl;
      errors = c.in_ok-outputs_of.ensures;
      due = refl;
      upstream_due = refl;
      is_silent = refl;
      after = ap (λ (e : Edits). edited e s) c.none.ensures;
    })
