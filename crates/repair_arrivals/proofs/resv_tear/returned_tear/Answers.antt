use Rattle.std.proofs.Common.{rules, arith, false, [], List, Option, None, ap, subst, sym, refl, ◌≡◌, ◌∙◌, vec_len}
use Rattle.std.proofs.lemmas.Bool.{eqb-false, eqb-true}
use Rattle.sorted_rows.specs.Edits as rows
use Rattle.lsr_facts.specs.Orders.{key_cmp}
use Rattle.lsr_facts.specs.declared.key.Key.{Key}
use Rattle.lsr_facts.specs.declared.reply.Reply.TheVariants as replies
use Rattle.lsr_facts.specs.declared.repair.Repair.{Repair}
use Rattle.abstract_router.specs.Outcomes.{Outcome}
use Rattle.abstract_router.specs.Returning.{returned_tear}
use Rattle.state_views.specs.Drafts.{IsDraft}
use Rattle.state_views.specs.EditLaws.{rows_without}
use Rattle.state_views.specs.Edits.{edited, without_rows}
use Rattle.state_views.specs.declared.edits.Edits.{Edits}
use Rattle.repair_arrivals.proofs.Torn.{tear_speaks, tears_none, tears_some}
use Rattle.repair_arrivals.proofs.resv_tear.returned_tear.Goals as goal

pub returns-in_err-torn-clause-memory : goal.returns-in_err-torn-clause-memory
returns-in_err-torn-clause-memory g c =
    let r = g.V.StateView.router c.args.view.now in
    let s = g.V.StateView.state c.args.view.now in
    let speaks : (returned_tear r s c.args.tear.now).is_silent ≡ false = tear_speaks r s c.args.tear.now c.in_err-torn.ensures.memory in
    search rules

pub returns-then-is_empty-clause-draft : goal.returns-then-is_empty-clause-draft
returns-then-is_empty-clause-draft g c =
    let r = g.V.StateView.router c.args.view.now in
    let s = g.V.StateView.state c.args.view.now in
    subst (λ (o : Outcome). IsDraft c.refused.result o r s)
    (tears_none r s c.args.tear.now c.in_ok-torn.torn.items c.in_ok-torn.ensures.keys (omega (arith, c.in_ok-torn.torn.ok, eqb-true (vec_len c.in_ok-torn.torn) 0 (sym c.is_empty.ensures ∙ c.if-is_empty.true))))
    c.refused.ensures

pub returns-in_err-edits-clause-memory : goal.returns-in_err-edits-clause-memory
returns-in_err-edits-clause-memory g c =
    let r = g.V.StateView.router c.args.view.now in
    let s = g.V.StateView.state c.args.view.now in
    let speaks : (returned_tear r s c.args.tear.now).is_silent ≡ false = sym (ap (λ (o : Outcome). o.is_silent) (tears_some r s c.args.tear.now c.in_ok-torn.torn.items c.in_ok-torn.ensures.keys (λ none. eqb-false (vec_len c.in_ok-torn.torn) 0 (sym c.is_empty.ensures ∙ c.if-is_empty.false) (omega (arith, c.in_ok-torn.torn.ok, none))))) in
    search rules

pub returns-clause-draft : goal.returns-clause-draft
returns-clause-draft g c =
    let r = g.V.StateView.router c.args.view.now in
    let s = g.V.StateView.state c.args.view.now in
    let repairs = c.in_ok-edits.field-0 in
    subst (λ (o : Outcome). IsDraft (record { reply = replies.Done; errors = c.new-2.result; due = None; is_silent = false; edits = record c.none-edits.result { repairs = repairs } }) o r s)
    (tears_some r s c.args.tear.now c.in_ok-torn.torn.items c.in_ok-torn.ensures.keys (λ none. eqb-false (vec_len c.in_ok-torn.torn) 0 (sym c.is_empty.ensures ∙ c.if-is_empty.false) (omega (arith, c.in_ok-torn.torn.ok, none))))
    (record {
      reply = refl;
      errors = c.new-2.ensures;
      due = refl;
      upstream_due = refl;
      is_silent = refl;
      after =
          ap (λ (e : Edits). edited (record e { repairs = repairs }) s) c.none-edits.ensures
          ∙ ap (λ (left : List (Key × Repair)). record s { repairs = left })
          (ap (λ (edits : List (Key × Option Repair)). rows.edited key_cmp edits s.repairs) (c.in_ok-edits.ensures ∙ (λ i. without_rows (c.new.ensures i) (c.as_slice.ensures.value i)))
          ∙ rows_without [] c.in_ok-torn.torn.items s.repairs c.requires);
    })
