use Rattle.std.proofs.Common.{ℕ, List, Option, sym, ap, subst, ◌∙◌}
use Rattle.sorted_rows.specs.InTurn.{given, in_turn}
use Rattle.lsr_facts.specs.Orders.{key_cmp}
use Rattle.lsr_facts.specs.declared.key.Key.{Key}
use Rattle.label_space.specs.Bindings.{Bindings}
use Rattle.label_space.specs.Rests.{freed_by, rested}
use Rattle.label_space.specs.Turns.{CanHold, emptied}
use Rattle.label_space.proofs.Turning.{can_hold_then, passes_made}
use Rattle.label_space.proofs.bindings.LabelBindings.edit.Goals as goal

pub hold_all-requires : goal.hold_all-requires
hold_all-requires c =
    let was = c.args.self.now in
    let edits = c.as_slice-edits.result.now in
    let can = can_hold_then was.range c.args.edits was.labels (rested was.moment c.args.until (freed_by c.args.edits was.labels) was.resting) c.as_slice-edits.ensures.sorted c.rows_are_in_order.ensures.sorted c.requires.room c.requires.held c.requires.apart in
    subst (λ (b : Bindings). CanHold b.range edits b.labels b.resting) (sym c.release_all.ensures)
    (subst (λ (es : List (Key × Option ℕ)). CanHold was.range es (in_turn (emptied key_cmp) es was.labels) (rested was.moment c.args.until (freed_by es was.labels) was.resting)) (sym c.as_slice-edits.ensures.rows) can)

pub returns : goal.returns
returns c =
    let was = c.args.self.now in
    let edits = c.as_slice-edits.result.now in
    let until = c.args.until in
    let made = passes_made c.args.edits was.labels c.as_slice-edits.ensures.sorted c.rows_are_in_order.ensures.sorted in
    c.hold_all.ensures
    ∙ ap (λ (b : Bindings). record { range = b.range; moment = b.moment; labels = in_turn (given key_cmp) edits b.labels; resting = b.resting }) c.release_all.ensures
    ∙ ap (λ (es : List (Key × Option ℕ)). record { range = was.range; moment = was.moment; labels = in_turn (given key_cmp) es (in_turn (emptied key_cmp) es was.labels); resting = rested was.moment until (freed_by es was.labels) was.resting }) c.as_slice-edits.ensures.rows
    ∙ ap (λ (labels : List (Key × ℕ)). record { range = was.range; moment = was.moment; labels = labels; resting = rested was.moment until (freed_by c.args.edits was.labels) was.resting }) made
