-- The entries are taken away as they stood, and what holds of a journal still holds.
use Rattle.std.proofs.Common.{◌≡◌, ◌≤◌, [], Vec, arith, ap, refl, subst, sym, vec_capacity, ◌∙◌}
use Rattle.abstract_router.specs.States.{State}
use Rattle.run_journal.specs.Journals.{IsKept, IsSegment, Journal, Stretch, journal_of, rotated, stretch_of}
use Rattle.run_journal.specs.Marks.{Counts}
use Rattle.run_journal.proofs.Keeping.{kept_rotated, kept_segment}
use Rattle.run_journal.proofs.locked.Locked.rotate.Given.{Over}
use Rattle.run_journal.proofs.locked.Locked.rotate.Goals as goal

-- what was under the lock before
was : (g : Over) → goal.After-replace-3 g → Journal
was g c = journal_of c.self.inside.machine c.self.inside.opening c.self.inside.base c.self.inside.from c.self.inside.entries.items c.self.inside.counts c.self.inside.plane

-- what is under it now
now : (g : Over) → goal.After-replace-3 g → Journal
now g c = journal_of c.self.inside.machine c.self.inside.opening c.replace.new.dest c.replace-2.new.dest c.replace-3.new.dest.items c.self.inside.counts c.self.inside.plane

now_is : (g : Over) (c : goal.After-replace-3 g) → now g c ≡ rotated (was g c)
unfolding was now
now_is g c =
    let base : c.replace.new.dest ≡ c.self.inside.machine.state = c.replace.ensures.after ∙ c.in_ok-base.ensures ∙ c.in_ok-end.ensures in
    let from : c.replace-2.new.dest ≡ c.self.inside.counts = c.replace-2.ensures.after ∙ c.in_ok-from.ensures in
    let entries : c.replace-3.new.dest.items ≡ [] = ap (λ v. v.items) c.replace-3.ensures.after ∙ c.in_ok-entries.ensures.items in
    λ i. journal_of c.self.inside.machine c.self.inside.opening (base i) (from i) (entries i) c.self.inside.counts c.self.inside.plane

-- what was taken away
taken : (g : Over) → goal.After-replace-3 g → Stretch
taken g c = record { router = c.in_ok-router.router; base = c.replace.result; from = c.replace-2.result; entries = c.replace-3.result.items; end = c.in_ok-end.end }

taken_is : (g : Over) (c : goal.After-replace-3 g) → taken g c ≡ stretch_of (was g c)
unfolding was taken
taken_is g c =
    let router = c.in_ok-router.ensures ∙ c.router.ensures in
    let entries = ap (λ v. v.items) c.replace-3.ensures.value in
    λ i. record { router = router i; base = c.replace.ensures.value i; from = c.replace-2.ensures.value i; entries = entries i; end = c.in_ok-end.ensures i }

pub invariant_of-self : goal.invariant_of-self
unfolding was now
invariant_of-self g c = (
  subst IsKept (sym (now_is g c)) (kept_rotated (was g c) c.self.invariant.0),
  subst (λ v. 4096 ≤ vec_capacity v) (sym c.replace-3.ensures.after) (omega (arith, c.in_ok-entries.ensures.capacity)),
  c.self.invariant.2,
)

pub invariant_of-result : goal.invariant_of-result
unfolding was taken
invariant_of-result g c = subst IsSegment (sym (taken_is g c)) (kept_segment (was g c) c.self.invariant.0)

pub returns : goal.returns
unfolding was now taken
returns g c = record {
  segment = subst (λ (j : Journal). taken g c ≡ stretch_of j) c.self.view_is (taken_is g c);
  rotated = subst (λ (j : Journal). now g c ≡ rotated j) c.self.view_is (now_is g c);
  kept = tt;
}
