use Rattle.std.proofs.Common.{◌≡◌, drop}
use Rattle.lsr_facts.specs.Orders.{key_cmp}
use Rattle.sorted_rows.specs.InTurn.{in_turn, taken}
use Rattle.admission.specs.Bandwidths.{claim_edits, resv_edits}
use Rattle.admission.proofs.state.Admission.take.Given as goal

-- those from here on make of both tables what all of them make of these as they were
abbrev pub invariant-loop-edit : goal.invariant-loop-edit
invariant-loop-edit l =
    (in_turn (taken key_cmp) (resv_edits (drop l.edit-index l.edits)) l.self.resvs ≡ in_turn (taken key_cmp) (resv_edits l.fn.edits) l.fn.self.resvs)
    × (in_turn (taken key_cmp) (claim_edits (drop l.edit-index l.edits)) l.self.claims ≡ in_turn (taken key_cmp) (claim_edits l.fn.edits) l.fn.self.claims)
    × (l.self.limits ≡ l.fn.self.limits)
