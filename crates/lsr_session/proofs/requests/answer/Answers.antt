-- What was answered, be there memory for its text or not.
use Rattle.std.proofs.Common.{string_bytes}
use Rattle.lsr_session.proofs.Answering.{told, untold}
use Rattle.lsr_session.proofs.requests.answer.Goals as goal

pub returns-clause-told : goal.returns-clause-told
returns-clause-told c = told string_bytes c.into_text.result c.args.session.now c.serve.new.self c.args.request.now c.in_ok-answered.answered c.in_ok-answered.ensures.served c.into_text.ensures

pub returns-clause-untold : goal.returns-clause-untold
returns-clause-untold c = untold c.into_text.result c.args.session.now c.serve.new.self c.args.request.now c.in_ok-answered.answered c.in_ok-answered.ensures.served
