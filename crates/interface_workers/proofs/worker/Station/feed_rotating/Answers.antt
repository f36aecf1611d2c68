-- One segment more, of the name's own router.
use Rattle.std.proofs.Common.{rules, subst, sym}
use Rattle.shared_core.specs.Names.{IsSegmentOf}
use Rattle.interface_workers.proofs.Chaining.{fed_not, fed_once}
use Rattle.interface_workers.proofs.Naming.{segments_more}
use Rattle.interface_workers.proofs.worker.Station.feed_rotating.Goals as goal

pub returns-in_ok-rotate-in-Err-JournalFull-clause-stays : goal.returns-in_ok-rotate-in-Err-JournalFull-clause-stays
returns-in_ok-rotate-in-Err-JournalFull-clause-stays g c =
    let rotated = c.in_ok-rotate-in-Err-JournalFull in
    segments_more g.L.CoreName.config c.args.segments.now.items c.push_reserved.new.self.items c.into_segment.result c.push_reserved.ensures.items
    (subst (IsSegmentOf g.L.CoreName.config) (sym c.into_segment.ensures) rotated.ensures.own)

pub returns-in_err-rotate-in-Err-JournalFull-clause-fed : goal.returns-in_err-rotate-in-Err-JournalFull-clause-fed
returns-in_err-rotate-in-Err-JournalFull-clause-fed g c =
    fed_not g.L.CoreName.config c.args.port.now.mark c.rotate.new.port.mark c.args.event.now c.from_residual.result (search rules) (search rules) (search rules)
