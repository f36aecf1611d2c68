-- The rows of the table are the links' socket addresses.
use Rattle.std.proofs.Common.{ℕ, List, string_bytes, subst}
use Rattle.std.specs.Prelude.{IfOk}
use Rattle.lsr_config.specs.declared.sockets.LinkSockets.{LinkSockets}
use Rattle.lsr_session.specs.Requests.{Shows}
use Rattle.lsr_console.proofs.asking.LookQuestion.ask.Goals as goal

pub returns : goal.returns
returns c =
    subst (λ (sockets : List (ℕ × LinkSockets)). IfOk c.show.result (λ text. Shows c.args.machine.now sockets c.args.self.now.shown.now (string_bytes text))) c.as_slice.ensures.rows c.show.ensures
