use Rattle.std.proofs.Common.{sym}
use Rattle.std.proofs.lemmas.List.{append-nil}
use Rattle.rsvp_messages.proofs.Gathered.{on_ok_always, typed_is_no_adspec, typed_passes_not}
use Rattle.rsvp_messages.proofs.parts_reading.add.Goals as goal

pub returns-in_default-clause-passing : goal.returns-in_default-clause-passing
returns-in_default-clause-passing c =
    on_ok_always c.add_typed.result (rw (typed_passes_not c.args.kind c.args.object c.in_default.not-Other) (sym (append-nil _)))

pub returns-in_default-clause-adspecs : goal.returns-in_default-clause-adspecs
returns-in_default-clause-adspecs c =
    on_ok_always c.add_typed.result (rw (typed_is_no_adspec c.args.object c.in_default.not-Other) (sym (append-nil _)))
