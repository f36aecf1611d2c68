-- The reader is the one that the router was opened with.
use Rattle.std.proofs.Common.{◌≡◌, Some, subst, sym}
use Rattle.std.proofs.lemmas.List.Elements.{All-pop}
use Rattle.lookup_plane.specs.Changes.{new_reader}
use Rattle.run_journal.specs.Journals.{Journal}
use Rattle.lsr_journal.specs.Recorded.{begun}
use Rattle.lsr_journal.proofs.Answering.{begun_is, begun_of}
use Rattle.lsr_journal.proofs.recorded.RecordedSession.new.Goals as goal

pub returns : goal.returns
returns g c =
    let opened = c.in_ok-locked.ensures in
    let reader = (All-pop (λ reader. reader ≡ new_reader c.in_ok-locked.locked.table) _ _ (Some c.in-Some.reader) c.in-Some.ensures.items opened.readers.1).1 in
    subst (λ (j : Journal). begun_of j c.in-Some.reader c.in_ok-new.field-0 ≡ begun c.args.config j.table) (sym c.in_ok-locked-2.ensures)
    (begun_is c.args.config c.in_ok-locked.locked c.in-Some.reader c.in_ok-new.field-0 opened.locked reader c.in_ok-new.ensures)
