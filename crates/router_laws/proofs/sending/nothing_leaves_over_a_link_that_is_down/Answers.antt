-- Errors and tears are let out over links that are up, and nothing is wanted over others.
use Rattle.router_laws.proofs.OverUp.{all_over_up}
use Rattle.router_laws.proofs.sending.nothing_leaves_over_a_link_that_is_down.Goals as goal

pub returns : goal.returns
returns c = all_over_up
