-- The event was served, and its reply is the newest.
use Rattle.lsr_session.specs.Requests.{SessionState}
use Rattle.lsr_session.proofs.Answering.{event_served}
use Rattle.lsr_session.proofs.requests.serve_event.Goals as goal

pub returns : goal.returns
returns c =
    let before : SessionState = record { router = c.session.inside.router; recent = c.session.inside.recent } in
    let after : SessionState = record { router = c.serve_event.new.self; recent = c.remember.new.recent } in
    rw (← c.session.view_is) (event_served before after c.args.event c.serve_event.result c.served_of-answer.result c.serve_event.ensures.served c.serve_event.ensures.router c.served_of-answer.ensures c.remember.ensures)
