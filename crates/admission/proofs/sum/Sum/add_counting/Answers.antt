use Rattle.std.proofs.Common.{◌+◌, ◌*◌, ◌^◌, ◌≤◌, sym, subst, arith, ap, ◌∙◌, take}
use Rattle.std.specs.List.{filter}
use Rattle.lsr_facts.specs.Claims.{counts}
use Rattle.admission.specs.Sums.{AddsClaims}
use Rattle.admission.specs.declared.sum.Sum.{Sum}
use Rattle.admission.proofs.Summing.{adds_more, adds_same, total_more}
use Rattle.admission.proofs.sum.Sum.add_counting.Goals as goal
use Rattle.admission.proofs.sum.Sum.add_counting.Goals.{then-counts, else-counts}

pub loop-row-preserved : goal.loop-row-preserved
loop-row-preserved c =
    let counted = counts c.args.link c.args.priority in
    let xs = c.args.claims.now in
    let i = c.loop-row.row-index in
    let within = c.loop-row-test.true in
    let most : c.loop-row.self.total ≤ c.args.self.now.total + i * 2 ^ 50 = c.loop-row.invariant.1 in
    elim c.if-counts.branch [
      | then-counts w ↦
          let total = ap (λ (s : Sum). s.total) w.self-is in
          let added : w.add.new.self.total ≤ c.args.self.now.total + (i + 1) * 2 ^ 50 = total_more xs i _ within c.requires.rated c.args.self.now.total c.loop-row.self.total w.add.new.self.total most w.add.ensures.most in (
            subst (λ (s : Sum). AddsClaims c.args.self.now (filter counted (take (i + 1) xs)) s) (sym w.self-is)
                (adds_more counted xs i _ within c.args.self.now c.loop-row.self w.add.new.self (sym c.counts.ensures ∙ w.if-counts.true) c.loop-row.invariant.0 w.add.ensures.added),
            omega (arith, total, added),
          )
      | else-counts w ↦
          let total = ap (λ (s : Sum). s.total) w.self-is in (
            subst (λ (s : Sum). AddsClaims c.args.self.now (filter counted (take (i + 1) xs)) s) (sym w.self-is)
                (adds_same counted xs i _ within c.args.self.now c.loop-row.self (sym c.counts.ensures ∙ w.if-counts.false) c.loop-row.invariant.0),
            omega (arith, total, most),
          )
    ]
