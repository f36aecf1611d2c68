use Rattle.std.proofs.Common.{sym, ◌∙◌}
use Rattle.std.proofs.lemmas.List.{append-nil}
use Rattle.rsvp_messages.proofs.Gathered.{passed_is_no_adspec}
use Rattle.rsvp_messages.proofs.parts_reading.pass_on.Goals as goal

pub returns-in_ok-push-clause-adspecs : goal.returns-in_ok-push-clause-adspecs
returns-in_ok-push-clause-adspecs c =
    let none = passed_is_no_adspec c.args.kind c.args.other (sym c.passes.ensures ∙ c.if-passes.true) in
    rw none (sym (append-nil _))
