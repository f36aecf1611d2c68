-- One bypass more is looked at: it is put behind, where it has bandwidth to promise.
use Rattle.std.proofs.Common.{◌≤◌, ℕ, T, List, [], Some, None, append-nil, ap, filter_map, length, subst, sym, ◌∙◌}
use Rattle.std.proofs.lemmas.List.{take_all}
use Rattle.std.proofs.lemmas.Option.{slice_get-get_or}
use Rattle.std.specs.FinMap.Entries.{is_sorted}
use Rattle.std.specs.Option.{option_and_then}
use Rattle.std.specs.Ordering.{nat_cmp}
use Rattle.lsr_facts.specs.declared.bypass.Bypass.{Bypass}
use Rattle.lsr_facts.specs.declared.repair.BypassTunnel.{BypassTunnel}
use Rattle.make_before_break.proofs.Places.{one_more_at}
use Rattle.bandwidth_protection.specs.CandidateLaws.{all_promising, few_promising, promising_sorted}
use Rattle.bandwidth_protection.specs.Candidates.{promising_by}
use Rattle.bandwidth_protection.proofs.candidates.promising.Goals as goal
use Rattle.bandwidth_protection.proofs.candidates.promising.Goals.{in-Some+in_ok-push, in_default}

pub loop-bypass-preserved : goal.loop-bypass-preserved
loop-bypass-preserved g c =
    let row_of = promising_by (g.A.StateView.router c.args.after.now) (g.A.StateView.state c.args.after.now) in
    let before = c.loop-bypass.all.items in
    let after = c.match-promising_by.all.items in
    let bypasses = c.as_slice-bypasses.result.now in
    let at = c.loop-bypass.bypass-index in
    let gives = c.promising_by.ensures ∙ sym (ap (option_and_then row_of) (slice_get-get_or bypasses at _ c.loop-bypass-test.true)) in
    elim c.match-promising_by.branch [
      | in-Some+in_ok-push w ↦ one_more_at row_of [] before after bypasses at (Some w.in-Some.row) c.loop-bypass.invariant (sym w.in-Some.is ∙ gives) ((λ k. (w.all-is k).items) ∙ w.in_ok-push.ensures.items)
      | in_default w ↦ one_more_at row_of [] before after bypasses at None c.loop-bypass.invariant (sym w.in_default.is ∙ gives) ((λ k. (w.all-is k).items) ∙ sym (append-nil before))
    ]

pub returns-clause-all : goal.returns-clause-all
returns-clause-all g c =
    let r = g.A.StateView.router c.args.after.now in
    let s = g.A.StateView.state c.args.after.now in
    c.loop-bypass.invariant
    ∙ ap (filter_map (promising_by r s)) (take_all c.loop-bypass.bypass-index c.as_slice-bypasses.result.now c.loop-bypass-test.false ∙ c.as_slice-bypasses.ensures.rows ∙ c.bypasses.ensures.bypasses)
    ∙ all_promising r s

pub returns-clause-order : goal.returns-clause-order
returns-clause-order g c =
    let r = g.A.StateView.router c.args.after.now in
    let s = g.A.StateView.state c.args.after.now in
    let sorted = subst (λ (rows : List (ℕ × Bypass)). T (is_sorted nat_cmp rows)) c.bypasses.ensures.bypasses c.as_slice-bypasses.ensures.sorted in
    subst (λ (rows : List (ℕ × BypassTunnel)). T (is_sorted nat_cmp rows)) (sym (returns-clause-all g c)) (promising_sorted r s sorted)

pub returns-clause-few : goal.returns-clause-few
returns-clause-few g c =
    let r = g.A.StateView.router c.args.after.now in
    let s = g.A.StateView.state c.args.after.now in
    subst (λ (rows : List (ℕ × BypassTunnel)). length rows ≤ length s.facts.bypasses) (sym (returns-clause-all g c)) (few_promising r s)
