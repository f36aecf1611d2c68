use Rattle.lsr_facts.specs.OrderLaws.{item_total, item_exact}
use Rattle.lsr_facts.proofs.laws.items_are_in_order.Goals as goal

pub returns-clause-total : goal.returns-clause-total
returns-clause-total c = item_total

pub returns-clause-exact : goal.returns-clause-exact
returns-clause-exact c = item_exact
