use Rattle.std.proofs.Common.{◌*◌, ◌+◌, ◌^◌, ◌≡◌, ◌≤◌, ap, arith, subst, sym, ◌∙◌, take}
use Rattle.std.specs.List.{filter}
use Rattle.std.proofs.lemmas.List.{take_all}
use Rattle.std.proofs.lemmas.List.Elements.{All-from_recursion}
use Rattle.lsr_facts.specs.declared.key.Key.{Key}
use Rattle.lsr_facts.specs.Claims.{counts, reserved_of}
use Rattle.lsr_facts.specs.declared.claim.Claim.{Claim}
use Rattle.admission.specs.Sums.{IsRateOf}
use Rattle.admission.specs.declared.run.SessionRate.{SessionRate}
use Rattle.admission.proofs.Bounds.{reserved_of-fits}
use Rattle.admission.proofs.Parts.{fixed_most, part_is, rate_more, rate_same}
use Rattle.admission.proofs.run.part_of.Goals as goal
use Rattle.admission.proofs.run.part_of.Goals.{After-loop-row, else-counts, then-counts}

pub loop-row-preserved : goal.loop-row-preserved
loop-row-preserved c =
    let session = c.args._session.now in
    let counted = counts c.args.link c.args.priority in
    let xs = c.args.run.now in
    let i = c.loop-row.row-index in
    let within = c.loop-row-test.true in
    let before = c.loop-row.rate in
    let low : before.fixed ≤ i * 2 ^ 50 = c.loop-row.invariant.1 in
    elim c.if-counts.branch [
      | then-counts w ↦
          let after = w.add.new.self in
          let most = All-from_recursion (λ (row : Key × Claim). row.1.rate ≤ 2 ^ 50) xs c.requires.rated i _ within in
          let fixed = fixed_most _ i before.fixed after.fixed _ low most w.add.ensures.fixed in
          subst (λ (r : SessionRate). IsRateOf session (filter counted (take (i + 1) xs)) r × (r.fixed ≤ (i + 1) * 2 ^ 50)) (sym w.rate-is)
          (rate_more session counted xs i _ within before after c.requires.own (sym c.counts.ensures ∙ w.if-counts.true) w.add.ensures.shared w.add.ensures.fixed c.loop-row.invariant.0, fixed)
      | else-counts w ↦
          let same : before.fixed ≤ (i + 1) * 2 ^ 50 = omega (arith, low) in
          subst (λ (r : SessionRate). IsRateOf session (filter counted (take (i + 1) xs)) r × (r.fixed ≤ (i + 1) * 2 ^ 50)) (sym w.rate-is)
          (rate_same session counted xs i _ within before (sym c.counts.ensures ∙ w.if-counts.false) c.loop-row.invariant.0, same)
    ]

-- the rate is that of all that count
whole : (c : After-loop-row) → c.loop-row.rate.shared + c.loop-row.rate.fixed ≡ reserved_of c.args.link c.args.priority c.args.run.now
whole c =
    let counted = counts c.args.link c.args.priority in
    let all = ap (filter counted) (take_all c.loop-row.row-index c.args.run.now c.loop-row-test.false) in
    part_is c.args.link c.args.priority c.args._session.now c.args.run.now c.loop-row.rate c.requires.sorted c.requires.own (subst (λ rows. IsRateOf c.args._session.now rows c.loop-row.rate) all c.loop-row.invariant.0)

pub overflow_add-result : goal.overflow_add-result
overflow_add-result c =
    let is = whole ((goal.at.overflow_add-result c).After-loop-row) in
    let fits = reserved_of-fits c.args.link c.args.priority c.args.run.now c.requires.sorted c.requires.rated c.requires.few in
    omega (arith, is, fits)

pub returns : goal.returns
returns c = whole ((goal.at.returns c).After-loop-row)
