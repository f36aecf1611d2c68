-- The event is applied, or refused for what is wrong with it.
use Rattle.std.proofs.Common.{◌≡◌, ◌-◌, ◌<◌, ◌^◌, ℕ, length, ap, refl, subst, sym, ◌∙◌}
use Rattle.std.proofs.lemmas.Result.{err_from_is_err_and}
use Rattle.journal_bytes.specs.Events.{event_bytes}
use Rattle.run_journal.specs.Journals.{IsEntryFor, Journal}
use Rattle.run_journal.specs.Marks.{Follows, receipt_of}
use Rattle.run_journal.proofs.Answering.{is_taken}
use Rattle.run_journal.proofs.Making.{made-event}
use Rattle.run_journal.proofs.Following.{known_follows, known_port}
use Rattle.run_journal.proofs.locked.Locked.apply_spelled.Goals as goal

pub receipt-requires-clause-low : goal.receipt-requires-clause-low
receipt-requires-clause-low g c =
    subst (λ (j : Journal). j.counts.number < 2 ^ 62) (sym c.self.view_is) (is_taken c.args.self.now c.args.mark c.args.event.now c.in_ok-ready.ensures.taken).low

pub receipt-requires-clause-port : goal.receipt-requires-clause-port
receipt-requires-clause-port g c =
    subst (λ (j : Journal). c.in_ok-ready.entry.entry.port - 1 < length j.counts.marks) (sym c.self.view_is)
    (subst (λ (port : ℕ). port - 1 < length c.args.self.now.counts.marks) (sym c.in_ok-ready.ensures.entry.port_is)
    (known_port c.args.self.now.counts c.args.mark (is_taken c.args.self.now c.args.mark c.args.event.now c.in_ok-ready.ensures.taken).known))

pub receipt-requires-clause-published : goal.receipt-requires-clause-published
receipt-requires-clause-published g c = c.self.invariant.0.published

pub receipt-requires-clause-within : goal.receipt-requires-clause-within
receipt-requires-clause-within g c = c.self.invariant.0.within

pub record-requires-clause-entry : goal.record-requires-clause-entry
record-requires-clause-entry g c =
    subst (λ (port : ℕ). IsEntryFor port c.args.event.now c.in_ok-ready.ready c.in_ok-ready.entry) (sym c.in_ok-ready.ensures.entry.port_is) c.in_ok-ready.ensures.entry

pub record-requires-clause-port : goal.record-requires-clause-port
record-requires-clause-port g c =
    subst (λ (port : ℕ). port - 1 < length c.args.self.now.counts.marks) (sym c.in_ok-ready.ensures.entry.port_is)
    (known_port c.args.self.now.counts c.args.mark (is_taken c.args.self.now c.args.mark c.args.event.now c.in_ok-ready.ensures.taken).known)

pub record-requires-clause-room : goal.record-requires-clause-room
record-requires-clause-room g c = (is_taken c.args.self.now c.args.mark c.args.event.now c.in_ok-ready.ensures.taken).room

pub record-requires-clause-low : goal.record-requires-clause-low
record-requires-clause-low g c = (is_taken c.args.self.now c.args.mark c.args.event.now c.in_ok-ready.ensures.taken).low

pub returns-in_err-ready : goal.returns-in_err-ready
returns-in_err-ready g c =
    let p = err_from_is_err_and c.from_residual.result c.from_residual.ensures.1 in
    rw (p.1, p.2) (record { answered = (refl, c.in_err-ready.ensures.refused); follows = tt })

pub returns-in_err-receipt : goal.returns-in_err-receipt
returns-in_err-receipt g c =
    let p = err_from_is_err_and c.from_residual-in_err-receipt.result c.from_residual-in_err-receipt.ensures.1 in
    rw (p.1, p.2) (record { answered = (refl, rw c.in_ok-ready.ensures.taken tt); follows = tt })

pub returns-in_err-record : goal.returns-in_err-record
returns-in_err-record g c =
    let p = err_from_is_err_and c.from_residual-in_err-record.result c.from_residual-in_err-record.ensures.1 in
    rw (p.1, p.2) (record { answered = (c.in_err-record.ensures.kept, rw c.in_ok-ready.ensures.taken tt); follows = tt })

pub returns : goal.returns
returns g c =
    let taken = is_taken c.args.self.now c.args.mark c.args.event.now c.in_ok-ready.ensures.taken in
    let told : c.in_ok-receipt.receipt ≡ receipt_of c.args.self.now.counts c.in_ok-ready.entry =
    subst (λ (j : Journal). c.in_ok-receipt.receipt ≡ receipt_of j.counts c.in_ok-ready.entry) c.self.view_is c.in_ok-receipt.ensures in
    record {
      answered = (
        c.in_ok-ready.ensures.taken,
        record {
          entry = c.in_ok-ready.entry;
          port_is = c.in_ok-ready.ensures.entry.port_is;
          event_is = c.in_ok-ready.ensures.entry.entry.event ∙ ap event_bytes (made-event c.args.event.now c.in_ok-ready.ready);
          receipt_is = told;
          entered = c.in_ok-record.ensures.entered;
        },
      );
      follows = subst (Follows c.args.mark) (sym told) (known_follows c.args.self.now.counts c.args.mark c.in_ok-ready.entry taken.known c.in_ok-ready.ensures.entry.port_is c.soundness.ensures.within);
    }
