-- The event was applied or refused, be there memory for its text or not.
use Rattle.std.proofs.Common.{Ok, Err, string_bytes, refl, subst}
use Rattle.run_journal.specs.Journals.{IsMarked, Journal}
use Rattle.lsr_journal.specs.Entries.{entry_text}
use Rattle.lsr_journal.specs.Recorded.{PrintsEvent, RecordedState}
use Rattle.lsr_journal.proofs.Answering.{applied_printed, has_entry, refused_told, refused_untold, told, untold}
use Rattle.lsr_journal.proofs.recorded.answer_event.Given.{Over}
use Rattle.lsr_journal.proofs.recorded.answer_event.Goals as goal

pub tell_last-requires : goal.tell_last-requires
tell_last-requires g c = has_entry c.deref_mut.result.now c.session.inside.mark c.args.event.now c.in-Ok.mark c.enter.new.self c.in-Ok.ensures

applied : (g : Over) (c : goal.After-tell_last g) → PrintsEvent c.args.session.now c.args.event.now (entry_text c.tell_last.ensures.0.entry) c.tell_last.new.session
applied g c =
    let before : RecordedState = record { journal = c.session.inside.locked.value; mark = c.session.inside.mark; reader = c.session.inside.reader; recent = c.session.inside.recent } in
    let between : RecordedState = record { journal = c.enter.new.self; mark = c.in-Ok.mark; reader = c.learn.new.self; recent = c.session.inside.recent } in
    let is : IsMarked before.journal before.mark c.args.event.now (Ok c.in-Ok.mark) c.enter.new.self =
    subst (λ (j : Journal). IsMarked j c.session.inside.mark c.args.event.now (Ok c.in-Ok.mark) c.enter.new.self) c.deref_mut.ensures.value c.in-Ok.ensures in
    let last = c.tell_last.ensures in
    subst (λ (s : RecordedState). PrintsEvent s c.args.event.now (entry_text last.0.entry) c.tell_last.new.session) c.session.view_is
    (applied_printed before between c.tell_last.new.session c.args.event.now c.in-Ok.mark last.0 is last.1 refl c.learn.ensures refl last.2)

pub returns-in-Ok-clause-told : goal.returns-in-Ok-clause-told
returns-in-Ok-clause-told g c =
    told string_bytes c.tell_last.result (entry_text c.tell_last.ensures.0.entry) (λ text. PrintsEvent c.args.session.now c.args.event.now text c.tell_last.new.session) (applied g c) c.tell_last.ensures.3

pub returns-in-Ok-clause-untold : goal.returns-in-Ok-clause-untold
returns-in-Ok-clause-untold g c =
    untold c.tell_last.result (entry_text c.tell_last.ensures.0.entry) (λ text. PrintsEvent c.args.session.now c.args.event.now text c.tell_last.new.session) (applied g c)

pub returns-in-Err-clause-told : goal.returns-in-Err-clause-told
returns-in-Err-clause-told g c =
    let before : RecordedState = record { journal = c.session.inside.locked.value; mark = c.session.inside.mark; reader = c.session.inside.reader; recent = c.session.inside.recent } in
    let is : IsMarked before.journal before.mark c.args.event.now (Err c.in-Err.refusal) c.enter.new.self =
    subst (λ (j : Journal). IsMarked j c.session.inside.mark c.args.event.now (Err c.in-Err.refusal) c.enter.new.self) c.deref_mut.ensures.value c.in-Err.ensures in
    rw (← c.session.view_is) (refused_told string_bytes c.refuse.result before c.refuse.new.session c.args.event.now c.in-Err.refusal c.enter.new.self is c.refuse.ensures.told)

pub returns-in-Err-clause-untold : goal.returns-in-Err-clause-untold
returns-in-Err-clause-untold g c =
    let before : RecordedState = record { journal = c.session.inside.locked.value; mark = c.session.inside.mark; reader = c.session.inside.reader; recent = c.session.inside.recent } in
    let is : IsMarked before.journal before.mark c.args.event.now (Err c.in-Err.refusal) c.enter.new.self =
    subst (λ (j : Journal). IsMarked j c.session.inside.mark c.args.event.now (Err c.in-Err.refusal) c.enter.new.self) c.deref_mut.ensures.value c.in-Err.ensures in
    rw (← c.session.view_is) (refused_untold c.refuse.result before c.refuse.new.session c.args.event.now c.in-Err.refusal c.enter.new.self is c.refuse.ensures.untold)
