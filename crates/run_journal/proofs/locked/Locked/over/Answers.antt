-- What was just opened is kept.
use Rattle.std.proofs.Common.{◌≡◌, ◌≤◌, arith, refl, subst, sym, ◌∙◌}
use Rattle.run_journal.specs.Journals.{IsKept, IsPlaneOf, Journal, journal_of, opened_journal}
use Rattle.run_journal.specs.Marks.{first_counts}
use Rattle.run_journal.proofs.Keeping.{kept_opened}
use Rattle.run_journal.proofs.locked.Locked.over.Given.{Over}
use Rattle.run_journal.proofs.locked.Locked.over.Goals as goal

now : (g : Over) → goal.In_ok-base g → Journal
now g c = journal_of c.args.machine c.in_ok-opening.opening c.in_ok-base.base c.in_ok-from.from c.in_ok-entries.entries.items c.in_ok-counts.counts c.args.plane

now_is : (g : Over) (c : goal.In_ok-base g) → now g c ≡ opened_journal c.args.machine (first_counts c.args.ports) c.args.plane.table
unfolding now
now_is g c =
    let from = c.in_ok-from.ensures ∙ c.in_ok-counts.ensures in
    λ i. journal_of c.args.machine (c.in_ok-opening.ensures i) (c.in_ok-base.ensures i) (from i) (c.in_ok-entries.ensures.items i) (c.in_ok-counts.ensures i) (c.requires.plane i)

pub invariant_of-result : goal.invariant_of-result
unfolding now
invariant_of-result g c = (
  subst IsKept (sym (now_is g c)) (kept_opened c.args.machine.router c.args.machine.state c.args.ports c.args.plane.table c.soundness.ensures.router c.soundness.ensures.sound c.requires.opening),
  omega (arith, c.in_ok-entries.ensures.capacity),
  subst (IsPlaneOf c.args.machine.router) (sym c.requires.plane) (record { first = refl; last = refl; settled = refl }),
)

pub returns : goal.returns
unfolding now
returns g c = now_is g c
