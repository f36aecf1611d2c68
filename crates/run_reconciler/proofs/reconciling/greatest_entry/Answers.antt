-- The greatest port so far, and that of one entry more.
use Rattle.std.proofs.Common.{◌≤◌, All, take, arith, subst}
use Rattle.std.proofs.lemmas.List.{take_all}
use Rattle.std.proofs.lemmas.List.Elements.{All-more, All-weaker}
use Rattle.run_journal.specs.declared.entry.CountedEntry.{CountedEntry}
use Rattle.run_reconciler.proofs.reconciling.greatest_entry.Goals as goal

pub loop-entry-preserved : goal.loop-entry-preserved
loop-entry-preserved c = record {
  least = omega (arith, c.max-greatest.ensures, c.loop-entry.invariant.least);
  entries = All-more (λ (e : CountedEntry). e.entry.port ≤ c.max-greatest.result) c.args.entries.now c.loop-entry.entry-index c.entry-item.result c.loop-entry-test.true
      (All-weaker (λ (e : CountedEntry). e.entry.port ≤ c.loop-entry.greatest) (λ (e : CountedEntry). e.entry.port ≤ c.max-greatest.result)
      (λ e low. omega (arith, c.max-greatest.ensures, low)) (take c.loop-entry.entry-index c.args.entries.now) c.loop-entry.invariant.entries)
      (subst (λ (e : CountedEntry). e.entry.port ≤ c.max-greatest.result) c.entry-item.is (omega (arith, c.max-greatest.ensures)));
}

pub returns-clause-entries : goal.returns-clause-entries
returns-clause-entries c = subst (All (λ (e : CountedEntry). e.entry.port ≤ c.loop-entry.greatest)) (take_all c.loop-entry.entry-index c.args.entries.now (omega arith)) c.loop-entry.invariant.entries
