-- What is no labelled frame is the same, whatever the reader sees.
use Rattle.std.proofs.Common.{[], inl, refl, sym, append-nil}
use Rattle.lsr_journal.proofs.seen.read_seen.Goals as goal

pub returns-in-Some : goal.returns-in-Some
returns-in-Some c = record { later = ([], sym (append-nil _)); learnt = refl; datagram = inl c.in-Some.ensures.answer }
