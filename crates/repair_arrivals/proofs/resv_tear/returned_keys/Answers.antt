-- One filter more: the LSP whose repair it is for is put after the others.
use Rattle.std.proofs.Common.{Some, None, append-nil, sym, ◌∙◌}
use Rattle.std.specs.Option.{option_map}
use Rattle.std.proofs.lemmas.List.{get_or_default}
use Rattle.rsvp_objects.specs.declared.values.Template.{Template}
use Rattle.abstract_paths.specs.Outcomes.{lsp}
use Rattle.abstract_paths.specs.RowLaws.{one_more}
use Rattle.abstract_router.specs.Returning.{repair_from}
use Rattle.repair_arrivals.proofs.resv_tear.returned_keys.Goals as goal
use Rattle.repair_arrivals.proofs.resv_tear.returned_keys.Goals.{in-Some+in_ok-push, in_default}

pub loop-filter-preserved : goal.loop-filter-preserved
loop-filter-preserved g c =
    let r = g.V.StateView.router c.args.view.now in
    let s = g.V.StateView.state c.args.view.now in
    let tear = c.args.tear.now in
    let key_of = λ (filter_spec : Template). option_map (λ repair. repair.0) (repair_from r s tear.hop.address (lsp tear.session filter_spec)) in
    let was = c.loop-filter.keys.items in
    let now = c.match-torn_by.keys.items in
    let items = c.as_slice-filter-items.result.now in
    let at = c.loop-filter.filter-index in
    elim c.match-torn_by.branch [
      | in-Some+in_ok-push w ↦
          one_more key_of was now items at _ (Some w.in-Some.key) c.loop-filter-test.true (get_or_default items at _ _ c.loop-filter-test.true) c.loop-filter.invariant (sym w.in-Some.is ∙ c.torn_by.ensures) ((λ k. (w.keys-is k).items) ∙ w.in_ok-push.ensures.items)
      | in_default w ↦
          one_more key_of was now items at _ None c.loop-filter-test.true (get_or_default items at _ _ c.loop-filter-test.true) c.loop-filter.invariant (sym w.in_default.is ∙ c.torn_by.ensures) ((λ k. (w.keys-is k).items) ∙ sym (append-nil was))
    ]
