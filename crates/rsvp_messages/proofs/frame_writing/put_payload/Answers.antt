-- A message in a payload is read again.
use Rattle.std.proofs.lemmas.Result.{on_ok_weaker}
use Rattle.rsvp_messages.proofs.Written.{message_carried}
use Rattle.rsvp_messages.proofs.frame_writing.put_payload.Goals as goal

pub returns-in_ok-push-in-Message-clause-again : goal.returns-in_ok-push-in-Message-clause-again
returns-in_ok-push-in-Message-clause-again c =
    rw c.in-Message.is (on_ok_weaker c.write_message.result (message_carried c.in-Message.message) c.write_message.ensures.again)
