use Rattle.std.proofs.Common.{◌≡◌, [], drop, take}
use Rattle.lsr_facts.specs.Admission.{granted, is_enough, shortest, without}
use Rattle.lsr_facts.specs.Claims.{reserved_of}
use Rattle.admission.proofs.victims.count_needed.Given as goal

-- those so far are gone and the request is granted, so much is reserved then, and the shortest beginning of all is that
-- of the others behind them
abbrev pub invariant-loop-count : goal.invariant-loop-count
invariant-loop-count l =
    (l.left.items ≡ granted l.request (without (take l.count l.keys) l.claims))
    × (l.reserved ≡ reserved_of l.request.claim.link 7 l.left.items)
    × (shortest (is_enough l.limit l.request l.claims) (take l.count l.keys) (drop l.count l.keys) ≡ shortest (is_enough l.limit l.request l.claims) [] l.keys)
