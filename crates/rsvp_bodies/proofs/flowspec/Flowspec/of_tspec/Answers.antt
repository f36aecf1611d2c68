-- The result is the FLOWSPEC of the SENDER_TSPEC, which has its rate.
use Rattle.std.proofs.Common.{rules, ◌≡◌}
use Rattle.rsvp_bodies.specs.Traffic.{flowspec_of}
use Rattle.rsvp_bodies.proofs.Shapes.{flowspec_rate-flowspec_of}
use Rattle.rsvp_bodies.proofs.flowspec.Flowspec.of_tspec.Goals as goal

pub returns-clause-rate : goal.returns-clause-rate
returns-clause-rate c =
    let made : c.from_body.result ≡ flowspec_of c.args.tspec.now = search rules in
    rw made (flowspec_rate-flowspec_of c.args.tspec.now)
