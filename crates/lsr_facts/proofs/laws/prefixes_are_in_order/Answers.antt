use Rattle.lsr_facts.specs.OrderLaws.{prefix_total, prefix_exact}
use Rattle.lsr_facts.proofs.laws.prefixes_are_in_order.Goals as goal

pub returns-clause-total : goal.returns-clause-total
returns-clause-total c = prefix_total

pub returns-clause-exact : goal.returns-clause-exact
returns-clause-exact c = prefix_exact
