-- What is due stands in order; and what is sent of each kind is all that a step sends.
use Rattle.std.proofs.Common.{◌≡◌, ◌++◌, List, ap, subst, sym, ◌∙◌}
use Rattle.std.specs.List.Sorted.{IsSorted}
use Rattle.lsr_facts.specs.Orders.{item_cmp}
use Rattle.lsr_facts.specs.declared.key.Item.{Item}
use Rattle.lsr_facts.specs.Upstreams.{upstream_cmp}
use Rattle.lsr_facts.specs.declared.upstream.Upstream.{Upstream}
use Rattle.abstract_paths.specs.declared.events.Output.{Output}
use Rattle.abstract_paths.specs.Outputs.{between, errors_out, send_for}
use Rattle.abstract_paths.specs.Stamps.{stamps}
use Rattle.abstract_router.specs.Outputs.{item_stamps, outputs_of, upstream_stamps}
use Rattle.abstract_router.specs.UpstreamLaws.{is_sorted-upstream_sound}
use Rattle.abstract_router.specs.Upstreams.{upstream_of}
use Rattle.abstract_router.specs.Wanted.{items_of}
use Rattle.abstract_router.specs.WantedLaws.{is_sorted-items}
use Rattle.state_views.specs.Edits.{edited}
use Rattle.state_sends.proofs.Elsewhere.{sorted_due, sorted_moments, sorted_upstream_due}
use Rattle.state_sends.proofs.sends.sends_of.Goals as goal

pub sends_at-requires-clause-due : goal.sends_at-requires-clause-due
sends_at-requires-clause-due g c =
    let r = g.V.StateView.router c.args.view.now in
    let s = g.V.StateView.state c.args.view.now in
    subst (λ (items : List Item). IsSorted item_cmp items) (sym (c.as_slice.ensures.value ∙ c.in_ok-due_paths.ensures))
    (sorted_due r s c.args.due (sorted_moments item_cmp s.facts.sent (items_of r s) c.requires.before.sent (is_sorted-items r s c.requires.before.paths.paths.in_order)))

pub sends_at-requires-2-clause-due : goal.sends_at-requires-2-clause-due
sends_at-requires-2-clause-due g c =
    let r = g.V.StateView.router c.args.view.now in
    let s = g.V.StateView.state c.args.view.now in
    subst (λ (items : List Upstream). IsSorted upstream_cmp items) (sym (c.as_slice-2.ensures.value ∙ c.in_ok-due_resvs.ensures))
    (sorted_upstream_due r s c.args.due (sorted_moments upstream_cmp s.sent_upstream (upstream_of r s) c.requires.before.sent_upstream (is_sorted-upstream_sound r s s.facts.moment c.requires.before.paths.paths)))

-- five lists, one after the other
all_five : (a b c d e x y z out : List Output) → out ≡ z ++ e → z ≡ y ++ d → y ≡ x ++ c → x ≡ a ++ b → out ≡ (((a ++ b) ++ c) ++ d) ++ e
all_five a b c d e x y z out last fourth third second =
    last ∙ ap (λ w. w ++ e) (fourth ∙ ap (λ w. w ++ d) (third ∙ ap (λ w. w ++ c) second))

pub returns-clause-outputs : goal.returns-clause-outputs
unfolding outputs_of items_of upstream_of
returns-clause-outputs g c =
    let r = g.V.StateView.router c.args.view.now in
    let s = g.V.StateView.state c.args.view.now in
    let after = edited c.args.edits.now s in
    let paths = c.in_ok-path_tears in
    let resvs = c.in_ok-resv_tears in
    let going = c.errors_out-going.ensures ∙ ap (λ up. errors_out up c.args.errors) c.up_after.ensures in
    let path_sends = paths.ensures.sends ∙ ap (λ due. between item_cmp (send_for item_cmp due) (items_of r after) (items_of r s)) (c.as_slice.ensures.value ∙ c.in_ok-due_paths.ensures) in
    let resv_sends = resvs.ensures.sends ∙ ap (λ due. between upstream_cmp (send_for upstream_cmp due) (upstream_of r after) (upstream_of r s)) (c.as_slice-2.ensures.value ∙ c.in_ok-due_resvs.ensures) in
    all_five c.errors_out-going.result paths.field-0.tears resvs.field-0.tears paths.field-0.sends resvs.field-0.sends c.in_ok-appended.field-0 c.in_ok-torn.torn c.in_ok-appended-2.field-0 c.in_ok-outputs.outputs
    c.in_ok-outputs.ensures c.in_ok-appended-2.ensures c.in_ok-torn.ensures c.in_ok-appended.ensures
    ∙ (λ i. (((going i ++ paths.ensures.tears i) ++ resvs.ensures.tears i) ++ path_sends i) ++ resv_sends i)

pub returns-clause-moments : goal.returns-clause-moments
unfolding item_stamps items_of
returns-clause-moments g c =
    let r = g.V.StateView.router c.args.view.now in
    let s = g.V.StateView.state c.args.view.now in
    let after = edited c.args.edits.now s in
    c.in_ok-path_tears.ensures.moments s.facts.sent c.requires.before.sent
    ∙ ap (λ due. stamps item_cmp due (items_of r s) s.facts.sent after.facts.moment (items_of r after)) (c.as_slice.ensures.value ∙ c.in_ok-due_paths.ensures)

pub returns-clause-upstream : goal.returns-clause-upstream
unfolding upstream_stamps upstream_of
returns-clause-upstream g c =
    let r = g.V.StateView.router c.args.view.now in
    let s = g.V.StateView.state c.args.view.now in
    let after = edited c.args.edits.now s in
    c.in_ok-resv_tears.ensures.moments s.sent_upstream c.requires.before.sent_upstream
    ∙ ap (λ due. stamps upstream_cmp due (upstream_of r s) s.sent_upstream after.facts.moment (upstream_of r after)) (c.as_slice-2.ensures.value ∙ c.in_ok-due_resvs.ensures)
