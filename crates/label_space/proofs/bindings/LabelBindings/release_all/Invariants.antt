use Rattle.std.proofs.Common.{◌≡◌, drop, T}
use Rattle.std.specs.FinMap.Entries.{is_sorted}
use Rattle.std.specs.Ordering.{nat_cmp}
use Rattle.lsr_facts.specs.Orders.{key_cmp}
use Rattle.sorted_rows.specs.InTurn.{in_turn}
use Rattle.label_space.specs.Rests.{freed_by, rested}
use Rattle.label_space.specs.Turns.{emptied}
use Rattle.label_space.proofs.bindings.LabelBindings.release_all.Given as goal

-- those from here on make of the labels, and of those that rest, what all of them make of these as they were
abbrev pub invariant-loop-edit : goal.invariant-loop-edit
invariant-loop-edit l = record {
  range : l.self.range ≡ l.fn.self.range;
  moment : l.self.moment ≡ l.fn.self.moment;
  sorted : T (is_sorted key_cmp l.self.labels);
  in_order : T (is_sorted nat_cmp l.self.resting);
  labels : in_turn (emptied key_cmp) (drop l.edit-index l.edits) l.self.labels ≡ in_turn (emptied key_cmp) l.fn.edits l.fn.self.labels;
  resting : rested l.fn.self.moment l.until (freed_by (drop l.edit-index l.edits) l.self.labels) l.self.resting ≡ rested l.fn.self.moment l.until (freed_by l.fn.edits l.fn.self.labels) l.fn.self.resting;
}
