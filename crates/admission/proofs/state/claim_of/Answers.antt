use Rattle.std.proofs.Common.{sym, ◌∙◌}
use Rattle.lsr_facts.specs.ClaimLaws.{flowspec_rate-most}
use Rattle.admission.proofs.state.claim_of.Goals as goal

pub returns-clause-most : goal.returns-clause-most
returns-clause-most c = flowspec_rate-most c.args.fact.now.flowspec c.unwrap.result (sym c.rate.ensures.rate ∙ c.unwrap.ensures)
