use Rattle.std.proofs.Common.{◌≡◌, ◌∙◌, ℕ, [], Option, ap, arith, drop, refl, sym}
use Rattle.std.proofs.lemmas.List.{drop_all}
use Rattle.sorted_rows.specs.InTurn.{in_turn}
use Rattle.lsr_facts.specs.Orders.{key_cmp}
use Rattle.label_space.specs.Bindings.{Bindings}
use Rattle.label_space.specs.RestLaws.{freed_none, rested_none}
use Rattle.label_space.specs.Rests.{freed_by, rested}
use Rattle.label_space.specs.Turns.{emptied}
use Rattle.label_space.proofs.Turning.{emptied_next, in_order_next, rested_turn, sorted_next}
use Rattle.label_space.proofs.bindings.LabelBindings.release_all.Goals as goal

pub loop-edit-preserved : goal.loop-edit-preserved
loop-edit-preserved c =
    let was = c.loop-edit.self in
    let so_far = c.loop-edit.invariant in
    let until = c.args.until in
    let made = ap (λ (b : Bindings). b.labels) c.release.ensures in
    let rests = ap (λ (b : Bindings). b.resting) c.release.ensures in
    record {
      range = ap (λ (b : Bindings). b.range) c.release.ensures ∙ so_far.range;
      moment = ap (λ (b : Bindings). b.moment) c.release.ensures ∙ so_far.moment;
      sorted = sorted_next _ was.labels c.release.new.self.labels made so_far.sorted;
      in_order = in_order_next was.moment until _ was.labels was.resting c.release.new.self.resting rests so_far.in_order;
      labels = emptied_next c.args.edits.now c.loop-edit.edit-index _ _ was.labels c.release.new.self.labels _ c.loop-edit-test.true refl made so_far.labels;
      resting = rested_turn c.args.edits.now c.loop-edit.edit-index _ _ c.args.self.now.moment was.moment until was.labels c.release.new.self.labels was.resting c.release.new.self.resting _ so_far.sorted so_far.in_order c.loop-edit-test.true refl so_far.moment made rests so_far.resting;
    }

pub returns : goal.returns
returns c =
    let so_far = c.loop-edit.invariant in
    let now = c.loop-edit.self in
    let edits = c.args.edits.now in
    let none : drop c.loop-edit.edit-index edits ≡ [] = drop_all c.loop-edit.edit-index edits (omega arith) in
    let labels = sym (ap (λ es. in_turn (emptied key_cmp) es now.labels) none) ∙ so_far.labels in
    let freed = ap (λ es. freed_by es now.labels) none ∙ freed_none (Option ℕ) now.labels in
    let resting = sym (ap (λ gone. rested c.args.self.now.moment c.args.until gone now.resting) freed ∙ rested_none c.args.self.now.moment c.args.until now.resting) ∙ so_far.resting in
    λ i. record { range = so_far.range i; moment = so_far.moment i; labels = labels i; resting = resting i }
