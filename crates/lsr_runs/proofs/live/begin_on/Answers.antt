-- The text that was read says the router, or no session begins.
use Rattle.std.proofs.Common.{inr, string_bytes}
use Rattle.std.specs.Option.{option_map}
use Rattle.std.proofs.lemmas.Result.{err_from_is_err_and}
use Rattle.lsr_runs.specs.Sessions.{said_by}
use Rattle.lsr_runs.proofs.live.begin_on.Goals as goal

pub returns-in_err-session-clause-fault : goal.returns-in_err-session-clause-fault
returns-in_err-session-clause-fault g c =
    let p = err_from_is_err_and c.from_residual.result c.from_residual.ensures.1 in
    rw (p.1, p.2) (inr (said_by (option_map string_bytes c.in-Ok.text), c.in-Ok.ensures.text, c.in_err-session.ensures.fault))

pub returns-clause-begun : goal.returns-clause-begun
returns-clause-begun g c =
    let begun = c.in_ok-session.ensures.begun in
    (said_by (option_map string_bytes c.in-Ok.text), begun.0, c.in-Ok.ensures.text, begun.1, begun.2)
