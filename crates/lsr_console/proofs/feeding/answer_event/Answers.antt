-- The event was answered, be there memory for its text or not.
use Rattle.std.proofs.Common.{Err, Ok, string_bytes}
use Rattle.lsr_console.specs.Answers.{AnswersEvent, OperatorState, answer_text}
use Rattle.lsr_console.proofs.Receipts.{newest_fed, some}
use Rattle.lsr_console.proofs.Telling.{event_told, told, untold}
use Rattle.lsr_console.proofs.feeding.answer_event.Goals as goal

pub newest-requires : goal.newest-requires
newest-requires g c = some _ _ c.in-None.ensures.answered.0 c.in-None.ensures.answered.1.newest

pub returns-in-None-clause-told : goal.returns-in-None-clause-told
returns-in-None-clause-told g c =
    let before : OperatorState = record { work = c.args.work.now; recent = c.args.recent.now } in
    let after : OperatorState = record { work = c.feed.new.work; recent = c.tell_receipt.new.recent } in
    let fed = newest_fed g.L.CoreName.config c.args.event.now c.args.work.now c.feed.new.work c.in-None.ensures.answered.0 c.newest.result.now c.in-None.ensures.answered.1 c.newest.ensures in
    told string_bytes c.tell_receipt.result (answer_text c.args.echo (Ok c.newest.result.now)) (λ text. AnswersEvent g.L.CoreName.config c.args.echo c.args.event.now before text after)
    (event_told g.L.CoreName.config c.args.echo c.args.event.now before after (Ok c.newest.result.now) fed c.tell_receipt.ensures.recent) c.tell_receipt.ensures.text

pub returns-in-None-clause-untold : goal.returns-in-None-clause-untold
returns-in-None-clause-untold g c =
    let before : OperatorState = record { work = c.args.work.now; recent = c.args.recent.now } in
    let after : OperatorState = record { work = c.feed.new.work; recent = c.tell_receipt.new.recent } in
    let fed = newest_fed g.L.CoreName.config c.args.event.now c.args.work.now c.feed.new.work c.in-None.ensures.answered.0 c.newest.result.now c.in-None.ensures.answered.1 c.newest.ensures in
    untold c.tell_receipt.result (answer_text c.args.echo (Ok c.newest.result.now)) (λ text. AnswersEvent g.L.CoreName.config c.args.echo c.args.event.now before text after)
    (event_told g.L.CoreName.config c.args.echo c.args.event.now before after (Ok c.newest.result.now) fed c.tell_receipt.ensures.recent)

pub returns-in-Some-clause-told : goal.returns-in-Some-clause-told
returns-in-Some-clause-told g c =
    let before : OperatorState = record { work = c.args.work.now; recent = c.args.recent.now } in
    let after : OperatorState = record { work = c.feed.new.work; recent = c.tell_refusal.new.recent } in
    told string_bytes c.tell_refusal.result (answer_text c.args.echo (Err c.in-Some.refusal)) (λ text. AnswersEvent g.L.CoreName.config c.args.echo c.args.event.now before text after)
    (event_told g.L.CoreName.config c.args.echo c.args.event.now before after (Err c.in-Some.refusal) c.in-Some.ensures.answered c.tell_refusal.ensures.recent) c.tell_refusal.ensures.text

pub returns-in-Some-clause-untold : goal.returns-in-Some-clause-untold
returns-in-Some-clause-untold g c =
    let before : OperatorState = record { work = c.args.work.now; recent = c.args.recent.now } in
    let after : OperatorState = record { work = c.feed.new.work; recent = c.tell_refusal.new.recent } in
    untold c.tell_refusal.result (answer_text c.args.echo (Err c.in-Some.refusal)) (λ text. AnswersEvent g.L.CoreName.config c.args.echo c.args.event.now before text after)
    (event_told g.L.CoreName.config c.args.echo c.args.event.now before after (Err c.in-Some.refusal) c.in-Some.ensures.answered c.tell_refusal.ensures.recent)
