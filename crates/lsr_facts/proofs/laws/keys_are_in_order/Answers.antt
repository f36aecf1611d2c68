use Rattle.lsr_facts.specs.OrderLaws.{key_total, key_exact}
use Rattle.lsr_facts.proofs.laws.keys_are_in_order.Goals as goal

pub returns-clause-total : goal.returns-clause-total
returns-clause-total c = key_total

pub returns-clause-exact : goal.returns-clause-exact
returns-clause-exact c = key_exact
