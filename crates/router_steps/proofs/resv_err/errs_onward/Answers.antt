-- One descriptor more: what comes of it is put behind.
use Rattle.std.proofs.Common.{[], ◌∷◌, List, Option, Some, None, map, ap, append-nil, subst, sym, ◌∙◌}
use Rattle.std.specs.List.{AllByRecursion}
use Rattle.std.specs.Option.{option_to_list}
use Rattle.std.proofs.lemmas.List.Elements.{All-from_recursion, All-get_or}
use Rattle.std.proofs.lemmas.List.{map-append}
use Rattle.rsvp_contents.specs.declared.descriptors.ErrorDescriptor.{ErrorDescriptor}
use Rattle.abstract_paths.specs.declared.events.Output.{Output}
use Rattle.abstract_paths.specs.RowLaws.{one_more}
use Rattle.resv_arrivals.specs.Below.rules.Rooms.{HaveRoom}
use Rattle.router_steps.specs.Onward.{err_by, told_of}
use Rattle.router_steps.proofs.resv_err.errs_onward.Goals as goal
use Rattle.router_steps.proofs.resv_err.errs_onward.Goals.{in-NoMatch, in-Ends+in_ok-push-in-Ends, in-GoesOn+in_ok-push-in-GoesOn}

pub err_by-requires-clause-room : goal.err_by-requires-clause-room
err_by-requires-clause-room g c =
    let P = λ (d : ErrorDescriptor). HaveRoom (d ∷ []) in
    let items = c.as_slice-descriptor-items.result.now in
    subst P (sym c.descriptor-item.is)
    (All-get_or P items c.loop-descriptor.descriptor-index c.descriptor-item.result c.loop-descriptor-test.true
    (All-from_recursion P items (subst (λ (ds : List ErrorDescriptor). AllByRecursion P ds) (sym c.as_slice-descriptor-items.ensures) c.resv_err_leaves_room.ensures)))

pub loop-descriptor-preserved : goal.loop-descriptor-preserved
loop-descriptor-preserved g c =
    let r = g.V.StateView.router c.args.view.now in
    let s = g.V.StateView.state c.args.view.now in
    let onward = err_by r s c.args.over c.args.error.now in
    let was = c.loop-descriptor.onward.items in
    let now = c.match-branch-2.onward.items in
    let items = c.as_slice-descriptor-items.result.now in
    let at = c.loop-descriptor.descriptor-index in
    let descriptor = c.descriptor-item.result in
    elim c.match-branch-2.branch [
      | in-NoMatch w ↦
          one_more onward (map option_to_list was) (map option_to_list now) items at descriptor None c.loop-descriptor-test.true c.descriptor-item.is c.loop-descriptor.invariant
          (ap told_of (sym w.in-NoMatch.is) ∙ c.in_ok-err_by.ensures.told)
          (ap (λ (told : List (Option Output)). map option_to_list told) (λ k. (w.onward-is k).items) ∙ sym (append-nil (map option_to_list was)))
      | in-Ends+in_ok-push-in-Ends w ↦
          one_more onward (map option_to_list was) (map option_to_list now) items at descriptor (Some []) c.loop-descriptor-test.true c.descriptor-item.is c.loop-descriptor.invariant
          (ap told_of (sym w.in-Ends.is) ∙ c.in_ok-err_by.ensures.told)
          (ap (λ (told : List (Option Output)). map option_to_list told) ((λ k. (w.onward-is k).items) ∙ w.in_ok-push-in-Ends.ensures.items) ∙ map-append option_to_list was (None ∷ []))
      | in-GoesOn+in_ok-push-in-GoesOn w ↦
          one_more onward (map option_to_list was) (map option_to_list now) items at descriptor (Some (w.in-GoesOn.output ∷ [])) c.loop-descriptor-test.true c.descriptor-item.is c.loop-descriptor.invariant
          (ap told_of (sym w.in-GoesOn.is) ∙ c.in_ok-err_by.ensures.told)
          (ap (λ (told : List (Option Output)). map option_to_list told) ((λ k. (w.onward-is k).items) ∙ w.in_ok-push-in-GoesOn.ensures.items) ∙ map-append option_to_list was (Some w.in-GoesOn.output ∷ []))
    ]
