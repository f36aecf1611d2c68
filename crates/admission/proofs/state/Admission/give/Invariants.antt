use Rattle.std.proofs.Common.{◌≡◌, reverse}
use Rattle.lsr_facts.specs.Orders.{key_cmp}
use Rattle.sorted_rows.specs.InTurn.{given, in_turn}
use Rattle.admission.specs.Bandwidths.{AreEdits, claim_edits, resv_edits}
use Rattle.admission.proofs.state.Admission.give.Given as goal

-- those that are left, from the last on, make of both tables what all of them make of these as they were
abbrev pub invariant-loop-key : goal.invariant-loop-key
invariant-loop-key l =
    (in_turn (given key_cmp) (resv_edits (reverse l.edits.items)) l.self.resvs ≡ in_turn (given key_cmp) (resv_edits (reverse l.fn.edits.items)) l.fn.self.resvs)
    × (in_turn (given key_cmp) (claim_edits (reverse l.edits.items)) l.self.claims ≡ in_turn (given key_cmp) (claim_edits (reverse l.fn.edits.items)) l.fn.self.claims)
    × (l.self.limits ≡ l.fn.self.limits)
    × AreEdits (reverse l.edits.items)

abbrev pub decreases-loop-key : goal.decreases-loop-key
decreases-loop-key l = goal.left-loop-key l
