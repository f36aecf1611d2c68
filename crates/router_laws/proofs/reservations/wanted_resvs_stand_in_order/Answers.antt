-- By the order of the paths and of their origins.
use Rattle.abstract_router.specs.UpstreamLaws.{is_sorted-upstream_sound, upstream-few}
use Rattle.router_laws.proofs.reservations.wanted_resvs_stand_in_order.Goals as goal

pub returns-clause-in_order : goal.returns-clause-in_order
returns-clause-in_order c = λ r s is. is_sorted-upstream_sound r s s.facts.moment is.paths.paths

pub returns-clause-few : goal.returns-clause-few
returns-clause-few c = λ r s is. (upstream-few r s s.facts.moment is.paths.paths).0
