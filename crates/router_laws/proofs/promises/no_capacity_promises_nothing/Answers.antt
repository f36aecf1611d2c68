-- Each promise is of a bypass that has bandwidth.
use Rattle.router_laws.proofs.Promised.{none_promised, selects_first}
use Rattle.router_laws.proofs.promises.no_capacity_promises_nothing.Goals as goal

pub returns-clause-nothing : goal.returns-clause-nothing
returns-clause-nothing c = none_promised

pub returns-clause-selects : goal.returns-clause-selects
returns-clause-selects c = selects_first
