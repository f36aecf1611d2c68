use Rattle.std.proofs.Common.{ap, unwrap_or, ◌∙◌}
use Rattle.std.specs.Option.{option_map_or}
use Rattle.std.specs.Ordering.{nat_cmp}
use Rattle.sorted_rows.specs.Edits as rows
use Rattle.lsr_facts.specs.Orders.{key_cmp}
use Rattle.label_space.specs.Rests.{freed_by, rested, resting_past}
use Rattle.state_views.specs.declared.edits.EditParts.{EditParts}
use Rattle.plain_views.proofs.edits.apply_edits.Goals as goal

pub returns : goal.returns
returns c =
    let s = c.args.state in
    let parts = c.into_parts-moment.ensures in
    let moment = c.replace.ensures ∙ ap (λ (e : EditParts). unwrap_or e.moment s.facts.moment) parts in
    let up = c.replace-2.ensures ∙ ap (λ (e : EditParts). unwrap_or e.up s.facts.up) parts in
    let routes = c.replace-3.ensures ∙ ap (λ (e : EditParts). unwrap_or e.routes s.facts.routes) parts in
    let bypasses = c.replace-4.ensures ∙ ap (λ (e : EditParts). unwrap_or e.bypasses s.facts.bypasses) parts in
    let tunnels = c.in_ok-edit_rows.ensures ∙ ap (λ (e : EditParts). rows.edited nat_cmp e.tunnels s.facts.tunnels) parts in
    let paths = c.in_ok-edit_rows-2.ensures ∙ ap (λ (e : EditParts). rows.edited key_cmp e.paths s.facts.paths) parts in
    let resvs = c.in_ok-edit_rows-3.ensures ∙ ap (λ (e : EditParts). rows.edited key_cmp e.resvs s.resvs) parts in
    let repairs = c.in_ok-edit_rows-4.ensures ∙ ap (λ (e : EditParts). rows.edited key_cmp e.repairs s.repairs) parts in
    let labels = c.in_ok-edit_rows-5.ensures ∙ ap (λ (e : EditParts). rows.edited key_cmp e.labels s.labels) parts in
    let assignments = c.in_ok-edit_rows-6.ensures ∙ ap (λ (e : EditParts). rows.edited key_cmp e.assignments s.assignments) parts in
    let woken = c.wake.ensures ∙ ap (λ (e : EditParts). option_map_or (λ moment. resting_past moment s.resting) e.moment s.resting) parts in
    let resting = c.in_ok-rest.ensures ∙ (λ i. option_map_or (λ until. rested (moment i) until (freed_by (parts i).labels s.labels) (woken i)) (parts i).rest_until (woken i)) in
    λ i. record s {
      facts = record s.facts { moment = moment i; up = up i; routes = routes i; bypasses = bypasses i; tunnels = tunnels i; paths = paths i };
      resvs = resvs i;
      repairs = repairs i;
      labels = labels i;
      assignments = assignments i;
      resting = resting i;
    }
