-- A draft is a step of its event, by the labels of its entry if these may be chosen.
use Rattle.std.specs.FinMap.Entries.{is_sorted}
use Rattle.std.specs.Prelude.{◌≡◌, ℕ, false, List, Option, Result, IfErr, T}
use Rattle.std.proofs.Common.{subst, sym, ◌∙◌}
use Rattle.std.proofs.lemmas.Result.{err_from_is_err_and}
use Rattle.sorted_rows.specs.Edits as rows
use Rattle.lsr_facts.specs.Orders.{key_cmp}
use Rattle.lsr_facts.specs.declared.key.Key.{Key}
use Rattle.lsr_facts.specs.declared.path_fact.PathFact.{PathFact}
use Rattle.abstract_paths.specs.Relays.{exceeds_hop_limit}
use Rattle.abstract_router.specs.Choosing.{CanLabel}
use Rattle.run_checker.specs.Faulty.{IsNoLabelling, StopsAt}
use Rattle.run_checker.specs.declared.fault.Stop.{Stop}
use Rattle.run_checker.specs.declared.taken.Taken.{Taken}
use Rattle.run_checker.proofs.Steps.{draft_leaves, loud_taken, no_labelling, silent_step}
use Rattle.run_checker.proofs.taken.step_over.Goals as goal

pub returns-then-draft-clause-taken : goal.returns-then-draft-clause-taken
returns-then-draft-clause-taken c =
    let r = c.args.view.now.router in
    let s = c.args.view.now.state in
    let event = c.args.event.now in
    let passes : exceeds_hop_limit r s.facts event ≡ false = sym c.exceeds_hop_limit.ensures ∙ c.if-exceeds_hop_limit.false in
    c.quiet_step.ensures.taken r s event (silent_step r s event c.in_ok-draft.draft c.requires.running c.is_possible.ensures passes c.in_ok-draft.ensures.draft c.requires.event c.if-draft.true)

pub returns-then-draft-clause-wrong : goal.returns-then-draft-clause-wrong
returns-then-draft-clause-wrong c =
    let r = c.args.view.now.router in
    let s = c.args.view.now.state in
    let event = c.args.event.now in
    let passes : exceeds_hop_limit r s.facts event ≡ false = sym c.exceeds_hop_limit.ensures ∙ c.if-exceeds_hop_limit.false in
    c.quiet_step.ensures.wrong r s event c.requires.spelled (silent_step r s event c.in_ok-draft.draft c.requires.running c.is_possible.ensures passes c.in_ok-draft.ensures.draft c.requires.event c.if-draft.true)

pub labels_for-requires-clause-choice : goal.labels_for-requires-clause-choice
labels_for-requires-clause-choice c =
    let r = c.args.view.now.router in
    let s = c.args.view.now.state in
    let event = c.args.event.now in
    let passes : exceeds_hop_limit r s.facts event ≡ false = sym c.exceeds_hop_limit.ensures ∙ c.if-exceeds_hop_limit.false in
    let leaves = draft_leaves r s event c.in_ok-draft.draft c.requires.running c.is_possible.ensures passes c.in_ok-draft.ensures.draft c.requires.router c.soundness.ensures.sound c.if-draft.false in
    subst (λ (paths : List (Key × Option PathFact)). CanLabel r s (rows.edited key_cmp paths s.facts.paths)) (sym c.as_slice-paths.ensures.rows) leaves.choice

pub returns-in_err-labels-clause-wrong : goal.returns-in_err-labels-clause-wrong
returns-in_err-labels-clause-wrong c =
    let r = c.args.view.now.router in
    let s = c.args.view.now.state in
    let event = c.args.event.now in
    let stop = c.in_err-labels.field-0.0 in
    let passes : exceeds_hop_limit r s.facts event ≡ false = sym c.exceeds_hop_limit.ensures ∙ c.if-exceeds_hop_limit.false in
    let none = subst (λ (x : List (Key × Option PathFact) × List (Key × ℕ)). IsNoLabelling stop r s (rows.edited key_cmp x.0 s.facts.paths) x.1)
    (λ i. (c.as_slice-paths.ensures.rows i, c.as_slice.ensures i)) c.in_err-labels.ensures.wrong in
    let wrong = no_labelling r s event c.in_ok-draft.draft c.requires.running c.is_possible.ensures passes c.in_ok-draft.ensures.draft c.args.entry.now stop c.requires.spelled c.if-draft.false none in
    let p = err_from_is_err_and c.from_residual-in_err-labels.result c.from_residual-in_err-labels.ensures.1 in
    subst (λ (result : Result Taken Stop). IfErr result (λ stop. StopsAt stop r s c.args.entry.now)) (sym p.1)
    (subst (λ (stop : Stop). StopsAt stop r s c.args.entry.now) (sym p.2) wrong)

pub step_by-requires-clause-draft : goal.step_by-requires-clause-draft
step_by-requires-clause-draft c =
    let r = c.args.view.now.router in
    let s = c.args.view.now.state in
    let event = c.args.event.now in
    let passes : exceeds_hop_limit r s.facts event ≡ false = sym c.exceeds_hop_limit.ensures ∙ c.if-exceeds_hop_limit.false in
    draft_leaves r s event c.in_ok-draft.draft c.requires.running c.is_possible.ensures passes c.in_ok-draft.ensures.draft c.requires.router c.soundness.ensures.sound c.if-draft.false

pub returns-clause-taken : goal.returns-clause-taken
returns-clause-taken c =
    let r = c.args.view.now.router in
    let s = c.args.view.now.state in
    let event = c.args.event.now in
    let passes : exceeds_hop_limit r s.facts event ≡ false = sym c.exceeds_hop_limit.ensures ∙ c.if-exceeds_hop_limit.false in
    let step = c.in_ok-step_by in
    loud_taken r s event c.in_ok-draft.draft c.requires.running c.is_possible.ensures passes c.in_ok-draft.ensures.draft step.field-0 c.args.entry.now.chosen c.taken_by.result c.if-draft.false
    step.ensures.step (step.ensures.chosen ∙ c.in_ok-labels.ensures.same ∙ c.as_slice.ensures) c.taken_by.ensures.reply c.taken_by.ensures.outputs (c.taken_by.ensures.change s)

pub labels_for-requires-clause-order : goal.labels_for-requires-clause-order
labels_for-requires-clause-order c = subst (λ (paths : List (Key × Option PathFact)). T (is_sorted key_cmp paths)) (sym c.as_slice-paths.ensures.rows) c.as_slice-paths.ensures.sorted
