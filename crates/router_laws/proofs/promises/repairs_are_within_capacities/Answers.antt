-- Whatever is repaired over such a bypass was promised its bandwidth.
use Rattle.router_laws.proofs.Promised.{brought_within}
use Rattle.router_laws.proofs.promises.repairs_are_within_capacities.Goals as goal

pub returns : goal.returns
returns c = λ r s number is. brought_within r s is number
