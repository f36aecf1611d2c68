use Rattle.std.proofs.Common.{◌≡◌, [], None, drop, false}
use Rattle.std.specs.Prelude.{fold}
use Rattle.abstract_router.specs.Returning.{next_returned}
use Rattle.repair_arrivals.specs.Progresses.{IsReached, reached}
use Rattle.repair_arrivals.proofs.resv.all_returned.Given as goal

-- those that are left lead from what is kept to where all lead
abbrev pub invariant-loop-descriptor : goal.invariant-loop-descriptor
invariant-loop-descriptor g l =
    let s = g.V.StateView.state l.fn.view in
    let next = next_returned (g.V.StateView.router l.fn.view) l.style l.resv in
    record {
      is_reached : IsReached s l.progress;
      leads : fold next (reached s l.progress) (drop l.descriptor-index l.descriptor-items) ≡ fold next (record { state = s; errors = []; first = None; has_granted = false }) l.resv.descriptors;
    }
