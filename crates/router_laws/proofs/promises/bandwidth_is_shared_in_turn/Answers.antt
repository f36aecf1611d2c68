-- By what the turns give, and what is left of that at the end of a step.
use Rattle.router_laws.proofs.KeptPromises.{shares_standing}
use Rattle.router_laws.proofs.SharesInTurn.{in_use_stays, shared_in_turn}
use Rattle.router_laws.proofs.promises.bandwidth_is_shared_in_turn.Goals as goal

pub returns-clause-shares : goal.returns-clause-shares
returns-clause-shares c = shares_standing

pub returns-clause-in_use : goal.returns-clause-in_use
returns-clause-in_use c = in_use_stays

pub returns-clause-in_turn : goal.returns-clause-in_turn
returns-clause-in_turn c = shared_in_turn
