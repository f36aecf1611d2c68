use Rattle.std.proofs.Common.{false, true, subst, sym}
use Rattle.abstract_router.specs.Tables.{TellsChange}
use Rattle.router_core.specs.States.{emptied}
use Rattle.router_core.specs.Readies.{IsReady, after_ready}
use Rattle.router_core.specs.declared.ready.Ready.{Ready}
use Rattle.router_core.proofs.Cooling.{told_cold, told_started}
use Rattle.router_core.proofs.ready.Ready.changes_table.Goals as goal

pub returns-in-Start : goal.returns-in-Start
returns-in-Start c s event is =
    subst (λ (ready : Ready). TellsChange false s.router s.state (after_ready ready s.state)) (sym c.in-Start.is) (told_started s.router s.state)

pub returns-in-Restart : goal.returns-in-Restart
returns-in-Restart c s event is =
    let its = subst (λ (ready : Ready). IsReady s event ready) c.in-Restart.is is in
    subst (λ (ready : Ready). TellsChange c.in-Restart.changes_table s.router s.state (after_ready ready s.state)) (sym c.in-Restart.is)
    (told_cold c.in-Restart.changes_table s.router s.state (emptied s.state) true its.2)
