use Rattle.std.proofs.Common.{◌≡◌, ◌<◌, [], None, drop, false, length}
use Rattle.std.specs.Prelude.{fold}
use Rattle.abstract_router.specs.Reserving.{next_descriptor}
use Rattle.resv_arrivals.specs.Progresses.{IsReached, reached}
use Rattle.resv_arrivals.proofs.arrivals.all_descriptors.Given as goal

-- what is kept is as it should be while there are others, and these lead from it to where all lead
abbrev pub invariant-loop-index : goal.invariant-loop-index
invariant-loop-index g l =
    let r = g.V.StateView.router l.fn.view in
    let s = g.V.StateView.state l.fn.view in
    let next = next_descriptor r l.link l.style l.resv in
    (l.index < length l.descriptors → IsReached r s l.progress)
    × (fold next (reached s l.progress) (drop l.index l.descriptors) ≡ fold next (record { state = s; errors = []; first = None; has_granted = false }) l.resv.descriptors)
