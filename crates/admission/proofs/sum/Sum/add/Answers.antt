use Rattle.std.proofs.Common.{refl, ap, ◌∙◌, ◌+◌, ◌-◌, max}
use Rattle.admission.proofs.Summing.{adds_fixed, adds_shared}
use Rattle.admission.proofs.sum.Sum.add.Goals as goal

pub returns-in-FixedFilter-clause-added : goal.returns-in-FixedFilter-clause-added
returns-in-FixedFilter-clause-added c = adds_fixed c.args.row.now c.args.self.now _ c.in-FixedFilter.is refl refl c.shared_by-shared.ensures

pub returns-in-SharedExplicit-clause-added : goal.returns-in-SharedExplicit-clause-added
returns-in-SharedExplicit-clause-added c =
    let rate = c.args.row.now.1.rate in
    let shared = c.shared_by-shared.ensures in
    adds_shared c.args.row.now c.args.self.now _ c.in-SharedExplicit.is
    (ap (λ n. c.args.self.now.total + n) (c.saturating_sub.ensures ∙ ap (λ n. rate - n) shared))
    refl
    (c.max-self.ensures ∙ ap (λ n. max rate n) shared)
