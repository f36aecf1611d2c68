-- By what a verdict leads to.
use Rattle.router_laws.proofs.RefusedDescriptors.{all_refused, one_refused}
use Rattle.router_laws.proofs.reservations.refused_descriptors_change_nothing.Goals as goal

pub returns-clause-all : goal.returns-clause-all
returns-clause-all c = all_refused

pub returns-clause-one : goal.returns-clause-one
returns-clause-one c = one_refused
