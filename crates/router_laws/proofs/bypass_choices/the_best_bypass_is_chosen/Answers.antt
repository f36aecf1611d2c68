-- By the first of those that the head would have, or else of the others.
use Rattle.router_laws.proofs.Choices.{chosen_least, chosen_may, chosen_preferred, chosen_some}
use Rattle.router_laws.proofs.bypass_choices.the_best_bypass_is_chosen.Goals as goal

pub returns-clause-may : goal.returns-clause-may
returns-clause-may c = λ r s key path resv choice is chosen. chosen_may r s is key path resv choice chosen

pub returns-clause-some : goal.returns-clause-some
returns-clause-some c = λ r s key path resv other is protected may. chosen_some r s is key path resv other protected may

pub returns-clause-preferred : goal.returns-clause-preferred
returns-clause-preferred c = λ r s key path resv choice other is chosen may like. chosen_preferred r s is key path resv choice other chosen may like

pub returns-clause-least : goal.returns-clause-least
returns-clause-least c = λ r s key path resv choice other is chosen may alike. chosen_least r s is key path resv choice other chosen may alike
