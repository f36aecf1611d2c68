-- The message for this router that the fields tell, where its way takes it.
use Rattle.std.proofs.Common.{sym, subst, ◌∙◌}
use Rattle.std.proofs.lemmas.Result.{err_from_is_err_and}
use Rattle.abstract_paths.specs.Events.{IsEvent}
use Rattle.abstract_paths.specs.declared.events.Event.{Event}
use Rattle.event_fields.specs.Spelled.{IsReadAs}
use Rattle.event_fields.specs.declared.unread.UnreadEvent.TheVariants as unread
use Rattle.event_fields.proofs.Told.{arrive_read_at, arrive_refused_at, arrive_unread_at}
use Rattle.event_fields.proofs.reading.read_arrive.Goals as goal

pub returns-in_err-whole : goal.returns-in_err-whole
returns-in_err-whole c =
    let p = err_from_is_err_and c.from_residual.result c.from_residual.ensures.1 in
    rw (p.1, p.2) (arrive_unread_at c.args.unread.now c.as_slice.result.now _ c.as_slice.ensures c.in_err-whole.ensures)

pub returns-then-not-takes : goal.returns-then-not-takes
returns-then-not-takes c =
    arrive_refused_at c.args.unread.now c.as_slice.result.now c.in_ok-whole.whole c.reading_of-reading.result c.as_slice.ensures c.in_ok-whole.ensures c.reading_of-reading.ensures (sym c.takes.ensures ∙ c.if-not-takes.true)

pub returns : goal.returns
returns c =
    let P : Event → Type 0 = λ event. IsEvent event × IsReadAs (unread.Arrive c.args.unread.now) event in
    subst P (sym c.possible.ensures.same)
    (c.possible.ensures.possible, arrive_read_at c.args.unread.now c.as_slice.result.now c.in_ok-whole.whole c.reading_of-reading.result _ c.as_slice.ensures c.in_ok-whole.ensures c.reading_of-reading.ensures)
