-- Reservations on the link fall, and the bypass that is selected is up.
use Rattle.router_laws.proofs.LostLinks.{lost_repaired, lost_unrepaired, only_told, origin_told, over_another, resv_stays, swaps_and_pushes}
use Rattle.router_laws.proofs.repairs.a_lost_link_is_repaired_at_once.Goals as goal

pub returns-clause-repaired : goal.returns-clause-repaired
returns-clause-repaired c = lost_repaired

pub returns-clause-up : goal.returns-clause-up
returns-clause-up c = λ r before after made n key repair router is rests there step event. over_another r before after made n router is rests there step event key repair

pub returns-clause-others : goal.returns-clause-others
returns-clause-others c = λ r before after made n key resv router is rests there step event. resv_stays r before after made n router is rests there step event key resv

pub returns-clause-told : goal.returns-clause-told
returns-clause-told c = λ r before after made n key resv path repair output router is rests there step event reserved on known. origin_told r before after made n router is rests there step event key resv path reserved known on repair output

pub returns-clause-lost : goal.returns-clause-lost
returns-clause-lost c = lost_unrepaired

pub returns-clause-entry : goal.returns-clause-entry
returns-clause-entry c = λ r before after made n key repair label router is rests there step event. swaps_and_pushes r before after made n router is rests there step event key repair label

pub returns-clause-only : goal.returns-clause-only
returns-clause-only c = λ r before after made n router is rests there step event. only_told r before after made n router is rests there step event
