use Rattle.std.proofs.Common.{rules}
use Rattle.lsr_facts.specs.Lifetimes.{lives_past}
use Rattle.lsr_facts.proofs.lifetimes.keep_living.Goals as goal

pub returns : goal.returns
returns c =
    let kept = c.retain.ensures.kept (lives_past c.args.moment) (λ key origin answer called. search (rules, called)) in
    λ i. record c.args.fact.now { origins = kept i }
