-- What was read was served, be there memory for its text or not.
use Rattle.std.proofs.Common.{string_bytes, ap, subst, ◌∙◌}
use Rattle.lsr_facts.specs.declared.router.Router.{Router}
use Rattle.run_journal.specs.Journals.{Journal}
use Rattle.lsr_journal.specs.Recorded.{IsRead, RecordedState}
use Rattle.lsr_journal.proofs.Answering.{read_told, read_untold}
use Rattle.lsr_journal.proofs.recorded.answer_datagram.Goals as goal

pub returns-clause-told : goal.returns-clause-told
returns-clause-told g c =
    let before : RecordedState = record { journal = c.session.inside.locked.value; mark = c.session.inside.mark; reader = c.session.inside.reader; recent = c.session.inside.recent } in
    let router = c.router-router.ensures ∙ ap (λ (j : Journal). j.router) c.deref.ensures in
    let what = c.read_seen-what in
    let is : IsRead before.journal.router before.reader c.args.link c.args.bytes.now what.result what.new.reader =
    subst (λ (r : Router). IsRead r before.reader c.args.link c.args.bytes.now what.result what.new.reader) router what.ensures in
    rw (← c.session.view_is) (read_told string_bytes c.answer_read.result before c.answer_read.new.session c.args.link c.args.bytes.now what.new.reader what.result is c.answer_read.ensures.told)

pub returns-clause-untold : goal.returns-clause-untold
returns-clause-untold g c =
    let before : RecordedState = record { journal = c.session.inside.locked.value; mark = c.session.inside.mark; reader = c.session.inside.reader; recent = c.session.inside.recent } in
    let router = c.router-router.ensures ∙ ap (λ (j : Journal). j.router) c.deref.ensures in
    let what = c.read_seen-what in
    let is : IsRead before.journal.router before.reader c.args.link c.args.bytes.now what.result what.new.reader =
    subst (λ (r : Router). IsRead r before.reader c.args.link c.args.bytes.now what.result what.new.reader) router what.ensures in
    rw (← c.session.view_is) (read_untold c.answer_read.result before c.answer_read.new.session c.args.link c.args.bytes.now what.new.reader what.result is c.answer_read.ensures.untold)
