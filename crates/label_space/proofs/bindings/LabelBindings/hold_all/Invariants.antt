use Rattle.std.proofs.Common.{◌≡◌, drop}
use Rattle.lsr_facts.specs.Orders.{key_cmp}
use Rattle.sorted_rows.specs.InTurn.{given, in_turn}
use Rattle.label_space.specs.Turns.{CanHold}
use Rattle.label_space.proofs.bindings.LabelBindings.hold_all.Given as goal

-- those from here on make of the labels what all of them make of these as they were, and may be made
abbrev pub invariant-loop-edit : goal.invariant-loop-edit
invariant-loop-edit l =
    (l.self.range ≡ l.fn.self.range)
    × (l.self.moment ≡ l.fn.self.moment)
    × (l.self.resting ≡ l.fn.self.resting)
    × (in_turn (given key_cmp) (drop l.edit-index l.edits) l.self.labels ≡ in_turn (given key_cmp) l.fn.edits l.fn.self.labels)
    × CanHold l.self.range (drop l.edit-index l.edits) l.self.labels l.self.resting
