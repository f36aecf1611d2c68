-- The words say a change, also where there is no memory for it.
use Rattle.std.proofs.Common.{refl}
use Rattle.rsvp_bodies.specs.RateWords.{tspec_with}
use Rattle.abstract_paths.specs.declared.tunnels.TunnelChange.{TunnelChange}
use Rattle.lsr_lines.proofs.LineLaws.{for_error}
use Rattle.lsr_lines.proofs.commands.change_said.Goals as goal

pub returns-in_default-read_rate-clause-change : goal.returns-in_default-read_rate-clause-change
returns-in_default-read_rate-clause-change c = λ change says. c.in_default-read_rate.ensures says.1.0 says.1.1

pub returns-in_err-route-clause-memory : goal.returns-in_err-route-clause-memory
returns-in_err-route-clause-memory c =
    let rate = c.in-Some-read_rate in
    let route = c.in-Some-read_route.ensures.1 in
    let change : TunnelChange = record { number = c.in-Some.number; route = route.0; tspec = tspec_with rate.rate; whole = refl } in
    for_error c.from_residual.result (change, (c.in-Some.ensures, (rate.rate, rate.ensures, refl), route.1))

pub returns-in_err-tspec_of-clause-memory : goal.returns-in_err-tspec_of-clause-memory
returns-in_err-tspec_of-clause-memory c =
    let rate = c.in-Some-read_rate in
    let route = c.in-Some-read_route.ensures.1 in
    let change : TunnelChange = record { number = c.in-Some.number; route = route.0; tspec = tspec_with rate.rate; whole = refl } in
    for_error c.from_residual-in_err-tspec_of.result (change, (c.in-Some.ensures, (rate.rate, rate.ensures, refl), route.1))
