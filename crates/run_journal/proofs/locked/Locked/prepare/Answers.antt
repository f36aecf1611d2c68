-- Why the event is refused, where its step isn't made ready.
use Rattle.std.proofs.Common.{refl, subst, sym, ◌∙◌}
use Rattle.std.proofs.lemmas.Result.{err_from_is_err_and}
use Rattle.router_core.specs.Machines.{IsEventLeft}
use Rattle.router_core.specs.Readies.{IsReady}
use Rattle.run_journal.specs.Journals.{IsRefusedLate, Journal, router_in}
use Rattle.run_journal.proofs.Answering.{is_taken, left_late}
use Rattle.run_journal.proofs.locked.Locked.prepare.Goals as goal

pub returns-in-Some : goal.returns-in-Some
returns-in-Some g c = record { taken = tt; ready = tt; entry = tt; refused = rw (sym c.early_refusal.ensures ∙ c.in-Some.is) refl }

pub returns-in_err-ready : goal.returns-in_err-ready
returns-in_err-ready g c =
    let none = sym c.early_refusal.ensures ∙ c.in_default.is in
    let taken = is_taken c.args.self.now c.args.mark c.args.event.now none in
    let out : IsRefusedLate c.args.self.now c.args.event.now c.in_err-ready.field-0.0 =
    left_late c.args.self.now c.args.event.now c.in_err-ready.field-0.0 taken.awake
    (subst (λ (j : Journal). IsEventLeft j.router j.state c.args.event.now c.in_err-ready.field-0.0) c.self.view_is c.in_err-ready.ensures.left) in
    let p = err_from_is_err_and c.from_residual.result c.from_residual.ensures.1 in
    rw (p.1, p.2) (record { taken = tt; ready = tt; entry = tt; refused = rw none out })

pub returns-in_err-entry : goal.returns-in_err-entry
returns-in_err-entry g c =
    let p = err_from_is_err_and c.from_residual-in_err-entry.result c.from_residual-in_err-entry.ensures.1 in
    rw (p.1, p.2) (record { taken = tt; ready = tt; entry = tt; refused = rw (sym c.early_refusal.ensures ∙ c.in_default.is) tt })

pub returns : goal.returns
returns g c = record {
  taken = sym c.early_refusal.ensures ∙ c.in_default.is;
  ready = subst (λ (j : Journal). IsReady (router_in j) c.args.event.now c.in_ok-ready.ready) c.self.view_is c.in_ok-ready.ensures.ready;
  entry = c.in_ok-entry.ensures;
  refused = tt;
}
