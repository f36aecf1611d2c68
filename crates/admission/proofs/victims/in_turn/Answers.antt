use Rattle.std.proofs.Common.{◌<◌, arith}
use Rattle.std.specs.List.{filter}
use Rattle.lsr_facts.specs.Admission.{can_give_way, in_turn}
use Rattle.admission.proofs.Turns.{held_next}
use Rattle.admission.proofs.victims.in_turn.Goals as goal

pub loop-holding-preserved : goal.loop-holding-preserved
loop-holding-preserved c =
    let request = c.args.request.now in
    let claims = c.args.claims.now in
    let some : 0 < c.loop-holding.holding = omega arith in
    held_next c.loop-holding.keys.items c.push_held.new.keys.items (in_turn request claims) c.loop-holding.holding (filter (can_give_way request) claims) some c.in_ok-push_held.ensures c.loop-holding.invariant
