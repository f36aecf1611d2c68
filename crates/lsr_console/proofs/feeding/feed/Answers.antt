-- The event was fed or refused.
use Rattle.lsr_console.proofs.Attended.{fed_one}
use Rattle.lsr_console.proofs.Receipts.{event_answered}
use Rattle.lsr_console.proofs.feeding.feed.Goals as goal

pub returns-clause-attended : goal.returns-clause-attended
returns-clause-attended g c =
    let served = c.serve_event-handled.ensures in
    fed_one g.L.CoreName.config _ _ _ _ _ _ served.goes_on served.handed_out served.adds_up served.datagrams served.own

pub returns-clause-answered : goal.returns-clause-answered
returns-clause-answered g c =
    let served = c.serve_event-handled.ensures in
    rw c.refusal_of.ensures (event_answered g.L.CoreName.config c.args.port.now.mark c.args.event.now c.serve_event-handled.result c.args.work.now c.serve_event-handled.new.work served.served.frames served.served.sendings served.served.is served.own)
