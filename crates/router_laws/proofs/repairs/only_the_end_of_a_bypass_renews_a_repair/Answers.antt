-- What comes over a link or through a stack changes no repair, and what comes in a Routed frame goes by the bypass's end.
use Rattle.router_laws.proofs.Renewals.{repairs_alone, still_none, still_repaired}
use Rattle.router_laws.proofs.Renewed.{ended_by_end, renewed_by_end}
use Rattle.router_laws.proofs.repairs.only_the_end_of_a_bypass_renews_a_repair.Goals as goal

pub returns-clause-others : goal.returns-clause-others
returns-clause-others c = still_repaired

pub returns-clause-none : goal.returns-clause-none
returns-clause-none c = still_none

pub returns-clause-alone : goal.returns-clause-alone
returns-clause-alone c = repairs_alone

pub returns-clause-renews : goal.returns-clause-renews
returns-clause-renews c = renewed_by_end

pub returns-clause-ends : goal.returns-clause-ends
returns-clause-ends c = ended_by_end
