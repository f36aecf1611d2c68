-- What is left is a stretch of the name's own router.
use Rattle.std.proofs.Common.{subst, sym, ◌∙◌}
use Rattle.shared_core.specs.Names.{IsSegmentOf}
use Rattle.shared_core.proofs.Naming.{stretch_own}
use Rattle.shared_core.proofs.booked.Booked.into_last.Goals as goal

pub returns-clause-own : goal.returns-clause-own
returns-clause-own g c =
    let booked = c.args.self in
    subst (IsSegmentOf g.L.CoreName.config) (sym (c.new.ensures ∙ c.in_ok-segment.ensures.segment))
    (stretch_own g.L.CoreName.config booked.locked booked.router booked.opening c.knew.ensures.base c.soundness.ensures)
