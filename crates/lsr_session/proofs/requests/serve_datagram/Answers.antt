-- The datagram was served, and its reply, if it has one, is the newest.
use Rattle.lsr_session.specs.Requests.{SessionState}
use Rattle.lsr_session.proofs.Answering.{datagram_served}
use Rattle.lsr_session.proofs.requests.serve_datagram.Goals as goal

pub returns : goal.returns
returns c =
    let before : SessionState = record { router = c.session.inside.router; recent = c.session.inside.recent } in
    let after : SessionState = record { router = c.serve_datagram-answer.new.self; recent = c.remember.new.recent } in
    let served = c.serve_datagram-answer in
    rw (← c.session.view_is) (datagram_served before after c.args.link c.args.datagram.now served.result served.ensures.served served.ensures.router c.remember.ensures)
