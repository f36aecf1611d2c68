-- A change of a sound router finds room, and leaves the tables of one.
use Rattle.std.proofs.Common.{◌≡◌, ◌≤◌, ap, arith, max, nat_cmp, length, subst, sym, ℕ, List, ◌∙◌}
use Rattle.std.specs.Option.{unwrap_or}
use Rattle.std.specs.declared.cmp.Ordering.{Ordering}
use Rattle.std.specs.declared.cmp.Ordering.TheVariants.{Equal}
use Rattle.sorted_rows.specs.Edits as in_rows
use Rattle.admission.specs.Bandwidths.{Bandwidth}
use Rattle.forwarding_table.specs.Actions.{Actions}
use Rattle.forwarding_table.specs.declared.action.Action.{Action}
use Rattle.abstract_router.specs.LabelLaws.{held-labelled}
use Rattle.label_space.specs.Bindings.{AreHeldOf, Bindings}
use Rattle.label_space.specs.Rests.{AreApart}
use Rattle.label_table.specs.TunnelLaws.{length_tunnel_table}
use Rattle.lsr_facts.specs.OrderLaws.{item_exact, key_exact}
use Rattle.lsr_facts.specs.Orders.{key_cmp}
use Rattle.lsr_facts.specs.UpstreamOrder.{upstream_exact}
use Rattle.lsr_facts.specs.declared.key.Item.{Item}
use Rattle.lsr_facts.specs.declared.router.LabelRange.{LabelRange}
use Rattle.lsr_facts.specs.declared.upstream.Upstream.{Upstream}
use Rattle.refresh_timers.specs.Timers.{Timers}
use Rattle.state_views.specs.declared.edits.EditParts.{EditParts}
use Rattle.router_tables.specs.Changes.{changed}
use Rattle.router_tables.specs.States.{facts_of, state_of}
use Rattle.router_tables.specs.declared.rows.Rows.{Rows}
use Rattle.router_tables.proofs.Applying.{AreEdited, edited_are, rests_are}
use Rattle.router_tables.proofs.Rooms.{few_assignments, few_labels, few_moments, few_paths, few_repairs, few_resvs, few_tunnels, few_upstream}
use Rattle.router_tables.proofs.rows.apply.Goals as goal

pub make_edits-requires-clause-room : goal.make_edits-requires-clause-room
make_edits-requires-clause-room c =
    let t = c.args.rows.now in
    subst (λ (e : EditParts). length (in_rows.edited nat_cmp e.tunnels t.tunnels) ≤ 256) (sym c.into_parts-edits.ensures)
    (few_tunnels t.router (changed c.args.change (state_of t)) c.requires.change.sound)

pub edit-requires : goal.edit-requires
edit-requires c =
    let t = c.args.rows.now in
    subst (λ (e : EditParts). length (in_rows.edited key_cmp e.paths t.paths) ≤ 1024) (sym c.into_parts-edits.ensures)
    (few_paths t.router (changed c.args.change (state_of t)) c.requires.change.sound)

pub edit-requires-2-clause-room : goal.edit-requires-2-clause-room
edit-requires-2-clause-room c = let t = c.args.rows.now in few_resvs t.router (changed c.args.change (state_of t)) c.requires.change.sound

pub make_edits-requires-2 : goal.make_edits-requires-2
make_edits-requires-2 c =
    let t = c.args.rows.now in
    record {
      exact = key_exact;
      room = subst (λ (e : EditParts). length (in_rows.edited key_cmp e.repairs t.repairs) ≤ 1024) (sym c.into_parts-edits.ensures)
          (few_repairs t.router (changed c.args.change (state_of t)) c.requires.change.sound);
    }

pub make_edits-requires-3 : goal.make_edits-requires-3
make_edits-requires-3 c =
    let t = c.args.rows.now in
    record {
      exact = key_exact;
      room = subst (λ (e : EditParts). length (in_rows.edited key_cmp e.assignments t.assignments) ≤ 1024) (sym c.into_parts-edits.ensures)
          (few_assignments t.router (changed c.args.change (state_of t)) c.requires.change.sound);
    }

pub edit_labels-requires-clause-room : goal.edit_labels-requires-clause-room
edit_labels-requires-clause-room c =
    let t = c.args.rows.now in
    subst (λ (e : EditParts). length (in_rows.edited key_cmp e.labels t.labels.labels) ≤ 1024) (sym c.into_parts-edits.ensures)
    (few_labels t.router (changed c.args.change (state_of t)) c.requires.change.sound)

pub edit_labels-requires-clause-held : goal.edit_labels-requires-clause-held
edit_labels-requires-clause-held c =
    let t = c.args.rows.now in
    let after = changed c.args.change (state_of t) in
    subst (λ (e : EditParts). AreHeldOf t.labels.range (in_rows.edited key_cmp e.labels t.labels.labels)) (sym c.into_parts-edits.ensures)
    (subst (λ (range : LabelRange). AreHeldOf range after.labels) (sym c.requires.tables.range) (held-labelled t.router after c.requires.change.sound.labels))

pub edit_labels-requires-clause-apart : goal.edit_labels-requires-clause-apart
edit_labels-requires-clause-apart c =
    let t = c.args.rows.now in
    let after = changed c.args.change (state_of t) in
    let parts = c.into_parts-edits.ensures in
    let labels = λ (e : EditParts). in_rows.edited key_cmp e.labels t.labels.labels in
    let rests = rests_are c.args.change t c.requires.tables c.requires.change _ _ parts c.replace.ensures in
    subst (AreApart _) (sym rests) (subst (λ (e : EditParts). AreApart (labels e) after.resting) (sym parts) c.requires.change.sound.resting.apart)

pub edit-requires-3 : goal.edit-requires-3
edit-requires-3 c =
    let t = c.args.rows.now in
    let order = c.items_are_in_order.ensures.order in (
      omega arith,
      (
        subst (λ (cmp : Item → Item → Ordering). (a b : Item) → cmp a b ≡ Equal → a ≡ b) (sym order) item_exact,
        subst (λ (cmp : Item → Item → Ordering). length (in_rows.edited cmp c.args.change.moments t.timers.sent) ≤ 1024) (sym order) (few_moments t.router (changed c.args.change (state_of t)) c.requires.change.sound),
      ),
    )

pub edit-requires-4 : goal.edit-requires-4
edit-requires-4 c = let t = c.args.rows.now in (omega arith, (upstream_exact, few_upstream t.router (changed c.args.change (state_of t)) c.requires.change.sound))

pub edit-requires-5-clause-room : goal.edit-requires-5-clause-room
edit-requires-5-clause-room c = c.requires.change.table.room c.args.rows.now.table.labels c.rows_are_in_order.ensures.labels_sorted c.requires.tables.table

pub edit_tunnels-requires-clause-room : goal.edit_tunnels-requires-clause-room
edit_tunnels-requires-clause-room c =
    let t = c.args.rows.now in
    let s = changed c.args.change (state_of t) in
    let edits = c.args.change.tunnel_table in
    let table =
    ap (λ (a : Actions). in_rows.edited nat_cmp edits a.tunnels) c.edit-5.ensures ∙ ap (λ (tunnels : List (ℕ × Action)). in_rows.edited nat_cmp edits tunnels) c.requires.tables.tunnel_table
    ∙ c.requires.change.tunnel_table.table in
    omega (arith, ap length table, length_tunnel_table t.router s, few_tunnels t.router s c.requires.change.sound)

-- each table is edited
are_edited : (c : goal.After-drop-edits) → AreEdited c.args.change c.args.rows.now c.advance.new.rows
are_edited c =
    let t = c.args.rows.now in
    let change = c.args.change in
    let parts = c.into_parts-edits.ensures in
    let last = c.advance.ensures in
    let rests = rests_are change t c.requires.tables c.requires.change _ _ parts c.replace.ensures in
    let sent = ap (λ (timers : Timers Item). timers.sent) c.edit-3.ensures ∙ ap (λ (cmp : Item → Item → Ordering). in_rows.edited cmp change.moments t.timers.sent) c.items_are_in_order.ensures.order in
    record {
      router = ap (λ (rows : Rows). rows.router) last;
      state =
          ap state_of last
          ∙ (λ i. record {
            facts = record (facts_of t) {
              moment = (c.replace.ensures ∙ ap (λ (e : EditParts). unwrap_or e.moment t.moment) parts) i;
              up = (c.replace-2.ensures ∙ ap (λ (e : EditParts). unwrap_or e.up t.up) parts) i;
              routes = (c.replace-3.ensures ∙ ap (λ (e : EditParts). unwrap_or e.routes t.routes) parts) i;
              bypasses = (c.replace-4.ensures ∙ ap (λ (e : EditParts). unwrap_or e.bypasses t.bypasses) parts) i;
              tunnels = (c.make_edits.ensures ∙ ap (λ (e : EditParts). in_rows.edited nat_cmp e.tunnels t.tunnels) parts) i;
              paths = (c.edit.ensures ∙ ap (λ (e : EditParts). in_rows.edited key_cmp e.paths t.paths) parts) i;
              sent = sent i;
            };
            resvs = (c.edit-2.ensures i).resvs;
            repairs = (c.make_edits-2.ensures ∙ ap (λ (e : EditParts). in_rows.edited key_cmp e.repairs t.repairs) parts) i;
            assignments = (c.make_edits-3.ensures ∙ ap (λ (e : EditParts). in_rows.edited key_cmp e.assignments t.assignments) parts) i;
            labels = (ap (λ (b : Bindings). b.labels) c.edit_labels.ensures ∙ ap (λ (e : EditParts). in_rows.edited key_cmp e.labels t.labels.labels) parts) i;
            resting = (ap (λ (b : Bindings). b.resting) c.edit_labels.ensures ∙ rests) i;
            sent_upstream = (c.edit-4.ensures i).sent;
          });
      period = ap (λ (rows : Rows). rows.timers.refresh_ms) last ∙ ap (λ (timers : Timers Item). timers.refresh_ms) c.edit-3.ensures;
      upstream_period = ap (λ (rows : Rows). rows.upstream.refresh_ms) last ∙ ap (λ (timers : Timers Upstream). timers.refresh_ms) c.edit-4.ensures;
      claims = ap (λ (rows : Rows). rows.bandwidth.claims) last ∙ ap (λ (b : Bandwidth). b.claims) c.edit-2.ensures;
      range = ap (λ (rows : Rows). rows.labels.range) last ∙ ap (λ (b : Bindings). b.range) c.edit_labels.ensures;
      moment =
          ap (λ (rows : Rows). rows.labels.moment) last ∙ ap (λ (b : Bindings). b.moment) c.edit_labels.ensures
          ∙ ap (λ (rows : Rows). max t.labels.moment rows.moment) (sym last);
      table = ap (λ (rows : Rows). rows.table.labels) last ∙ ap (λ (a : Actions). a.labels) c.edit_tunnels.ensures ∙ ap (λ (a : Actions). a.labels) c.edit-5.ensures;
      tunnel_table =
          ap (λ (rows : Rows). rows.table.tunnels) last ∙ ap (λ (a : Actions). a.tunnels) c.edit_tunnels.ensures
          ∙ ap (λ (a : Actions). in_rows.edited nat_cmp change.tunnel_table a.tunnels) c.edit-5.ensures;
    }

pub returns-clause-tables : goal.returns-clause-tables
returns-clause-tables c = edited_are c.args.change c.args.rows.now c.advance.new.rows c.requires.tables c.requires.change (are_edited c)

pub returns-clause-router : goal.returns-clause-router
returns-clause-router c = (are_edited c).router

pub returns-clause-state : goal.returns-clause-state
returns-clause-state c = (are_edited c).state
