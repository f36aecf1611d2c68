-- One edit more is looked at: what becomes of its LSP's label is put behind.
use Rattle.std.proofs.Common.{Some, None, append-nil, T, sym, ap, subst, ◌∙◌}
use Rattle.std.specs.FinMap.Entries.{is_sorted}
use Rattle.std.specs.Option.{option_map}
use Rattle.std.proofs.lemmas.List.{take_all}
use Rattle.lsr_facts.specs.OrderLaws.{key_exact, key_total}
use Rattle.lsr_facts.specs.Orders.{key_cmp}
use Rattle.abstract_paths.specs.TouchedLaws.{is_sorted-made}
use Rattle.abstract_paths.specs.RowLaws.{one_more}
use Rattle.state_settling.specs.Relabelling.{label_edit, label_edits}
use Rattle.state_settling.proofs.labels.label_edits.Goals as goal
use Rattle.state_settling.proofs.labels.label_edits.Goals.{in-Some+in_ok-push, in_default}

pub loop-edit-preserved : goal.loop-edit-preserved
loop-edit-preserved g c =
    let labels = (g.V.StateView.state c.args.view.now).labels in
    let chosen = c.args.chosen.now in
    let becomes = λ (edit : _ × _). option_map (λ now. (edit.0, now)) (label_edit labels chosen edit) in
    let before = c.loop-edit.labels.items in
    let after = c.match-label_edit.labels.items in
    let edits = c.args.paths.now in
    let at = c.loop-edit.edit-index in
    let edit = c.edit-item.result in
    elim c.match-label_edit.branch [
      | in-Some+in_ok-push w ↦ one_more becomes before after edits at edit (Some w.in-Some.row) c.loop-edit-test.true c.edit-item.is c.loop-edit.invariant (sym w.in-Some.is ∙ c.label_edit.ensures) ((λ k. (w.labels-is k).items) ∙ w.in_ok-push.ensures.items)
      | in_default w ↦ one_more becomes before after edits at edit None c.loop-edit-test.true c.edit-item.is c.loop-edit.invariant (sym w.in_default.is ∙ c.label_edit.ensures) ((λ k. (w.labels-is k).items) ∙ sym (append-nil before))
    ]

pub from_rows-requires : goal.from_rows-requires
from_rows-requires g c =
    let labels = (g.V.StateView.state c.args.view.now).labels in
    let chosen = c.args.chosen.now in
    let edits = c.args.paths.now in
    subst (λ rows. T (is_sorted key_cmp rows)) (sym (c.loop-edit.invariant ∙ ap (label_edits labels chosen) (take_all c.loop-edit.edit-index edits c.loop-edit-test.false)))
    (is_sorted-made key_cmp key_total key_exact (label_edit labels chosen) edits c.requires)
