use Rattle.rsvp_messages.proofs.MessageAnswered.{kept_answered, kept_is_message}
use Rattle.rsvp_messages.proofs.message_reading.read_message.Goals as goal

pub returns-clause-reads : goal.returns-clause-reads
returns-clause-reads c =
    let found = rw c.split_at.ensures.back at c.in-Ok.ensures.found in
    let answer = rw c.leave_looked_at.ensures at c.read_kept.ensures in
    kept_answered c.args.bytes.now c.in-Ok.objects.items c.read_kept.result c.in_default.ensures.fault found answer

pub read_kept-requires : goal.read_kept-requires
read_kept-requires c = λ reading e.
    let found = rw c.split_at.ensures.back at c.in-Ok.ensures.found in
    kept_is_message c.args.bytes.now c.in-Ok.objects.items reading c.in_default.ensures.fault found (rw c.leave_looked_at.ensures at e)
