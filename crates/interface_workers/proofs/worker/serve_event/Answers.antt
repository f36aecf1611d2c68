-- One event more is counted.
use Rattle.std.proofs.Common.{◌+◌, ◌-◌, ℕ, ap, refl, ◌∙◌}
use Rattle.worker_tallies.specs.declared.handled.Tally.{Tally}
use Rattle.interface_workers.proofs.Counting.{tally_is}
use Rattle.interface_workers.proofs.TakenKinds.{event_kind}
use Rattle.interface_workers.proofs.Turning.{counted_datagrams}
use Rattle.interface_workers.proofs.worker.serve_event.Goals as goal

pub returns-clause-datagrams : goal.returns-clause-datagrams
returns-clause-datagrams g c =
    let before = c.args.work.now.tally in
    let handled = c.serve_event-handled.result in
    let lost = c.failures.result - c.failures-failures.result in
    let served = c.serve_event-handled.ensures.served in
    let kind = event_kind g.L.CoreName.config c.args.port.now.mark c.args.event.now handled c.args.work.now.receipts.items c.serve_event-handled.new.work.receipts.items served.frames served.sendings served.is in
    ap (λ (t : Tally). t.datagrams)
    (tally_is before c.serve_event-handled.new.work.tally c.lose.new.self c.count.new.self handled lost lost c.serve_event-handled.ensures.tally.0 c.lose.ensures c.count.ensures refl)
    ∙ counted_datagrams before handled lost ∙ ap (λ (n : ℕ). before.datagrams + n) kind.taken

pub returns-clause-own : goal.returns-clause-own
returns-clause-own g c = λ is. let served = c.serve_event-handled.ensures.own is in record { receipts = served.receipts; segments = served.segments }
