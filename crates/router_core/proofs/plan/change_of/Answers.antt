-- The edits of a step make all sound, and so they are a change of the tables.
use Rattle.std.specs.Prelude.{◌≡◌, IsOk, List, Option}
use Rattle.std.specs.List.{AllByRecursion}
use Rattle.std.proofs.Common.{ap, subst, sym, ◌∙◌}
use Rattle.sorted_rows.specs.Edits as rows
use Rattle.admission.specs.Bandwidths.{resv_edits}
use Rattle.lsr_facts.specs.Orders.{key_cmp}
use Rattle.lsr_facts.specs.declared.key.Key.{Key}
use Rattle.lsr_facts.specs.declared.resv_fact.ResvFact.{ResvFact}
use Rattle.rsvp_bodies.specs.Traffic.{flowspec_rate}
use Rattle.abstract_router.specs.Preempting.{claims_of}
use Rattle.router_tables.specs.Below.views.Edits.{edited}
use Rattle.router_core.proofs.Planning.{change_is, changed_is, next_labels, next_lsps, next_rates}
use Rattle.router_core.proofs.plan.change_of.Goals as goal

pub table_edits-requires-clause-after : goal.table_edits-requires-clause-after
table_edits-requires-clause-after c = let t = c.args.tables.now in next_lsps t.router t.state c.args.step c.requires

pub table_edits-requires-clause-labels_after : goal.table_edits-requires-clause-labels_after
table_edits-requires-clause-labels_after c = let t = c.args.tables.now in next_labels t.router t.state c.args.step c.requires

pub tunnel_edits-requires-clause-after : goal.tunnel_edits-requires-clause-after
tunnel_edits-requires-clause-after c = let t = c.args.tables.now in next_lsps t.router t.state c.args.step c.requires

pub bandwidth_edits-requires-clause-rated : goal.bandwidth_edits-requires-clause-rated
bandwidth_edits-requires-clause-rated c =
    let t = c.args.tables.now in
    subst (λ (resvs : List (Key × Option ResvFact)). AllByRecursion (λ (resv : Key × ResvFact). IsOk (flowspec_rate resv.1.flowspec)) (rows.edited key_cmp resvs t.state.resvs))
    (sym c.replace-resvs.ensures.value) (next_rates t.router t.state c.args.step c.requires)

-- what becomes of bandwidth is told by the edits of reservations
resvs_are : (c : goal.In_ok-bandwidth) → rows.edited key_cmp (resv_edits c.in_ok-bandwidth.bandwidth) c.args.tables.now.state.resvs ≡ rows.edited key_cmp c.args.step.edits.resvs c.args.tables.now.state.resvs
resvs_are c = c.in_ok-bandwidth.ensures.resvs ∙ ap (λ (edits : List (Key × Option ResvFact)). rows.edited key_cmp edits c.args.tables.now.state.resvs) c.replace-resvs.ensures.value

pub returns-clause-after : goal.returns-clause-after
returns-clause-after c =
    let t = c.args.tables.now in
    changed_is t.router t.state c.args.step c.requires c.replace-resvs.new.dest c.in_ok-bandwidth.bandwidth c.in_ok-table.table c.in_ok-tunnel_table.tunnel_table (resvs_are c)

pub returns-clause-is : goal.returns-clause-is
returns-clause-is c =
    let t = c.args.tables.now in
    let bandwidth = c.in_ok-bandwidth in
    change_is t.router t.state c.args.step c.requires c.replace-resvs.new.dest bandwidth.bandwidth c.in_ok-table.table c.in_ok-tunnel_table.tunnel_table (resvs_are c) bandwidth.ensures.edits
    (bandwidth.ensures.claims ∙ ap (λ (edits : List (Key × Option ResvFact)). claims_of (edited c.args.step.edits t.state).facts.paths (rows.edited key_cmp edits t.state.resvs)) c.replace-resvs.ensures.value)
    c.in_ok-table.ensures c.in_ok-tunnel_table.ensures
