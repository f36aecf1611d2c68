-- What the datagram is was served, be there memory for its text or not.
use Rattle.std.proofs.Common.{Ok, refl}
use Rattle.datagrams.specs.declared.datagram.Datagram.TheVariants as kinds
use Rattle.lsr_session.specs.Requests.{passed_text}
use Rattle.lsr_journal.specs.Recorded.{PrintsRead}
use Rattle.lsr_journal.proofs.Answering.{untold}
use Rattle.lsr_journal.proofs.recorded.answer_read.Goals as goal

pub returns-in-Ok-Event-clause-untold : goal.returns-in-Ok-Event-clause-untold
returns-in-Ok-Event-clause-untold g c = rw (c.in-Ok-Event.is, c.in-Ok-Event.field-0-is) c.answer_event.ensures.untold

pub returns-in-Ok-Passed-clause-untold : goal.returns-in-Ok-Passed-clause-untold
returns-in-Ok-Passed-clause-untold g c =
    rw (c.in-Ok-Passed.is, c.in-Ok-Passed.field-0-is)
    (untold c.passed_text.result (passed_text c.in-Ok-Passed.passed) (λ text. PrintsRead c.args.session.now (Ok (kinds.Passed c.in-Ok-Passed.passed)) text c.args.session.now) (refl, refl))
