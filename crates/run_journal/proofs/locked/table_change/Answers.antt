-- The change is that of the step, whatever this is.
use Rattle.std.proofs.Common.{IfOk, rules, subst, sym}
use Rattle.std.proofs.lemmas.Result.{IfOk-weaker}
use Rattle.router_core.specs.declared.ready.Ready.{Ready}
use Rattle.router_core.specs.declared.ready.Ready.TheVariants as readies
use Rattle.lookup_plane.specs.declared.change.TableChange.{TableChange}
use Rattle.run_journal.specs.Journals.{IsChangeFor}
use Rattle.run_journal.proofs.Announcing.{for_plan, for_restart, for_start, for_still}
use Rattle.run_journal.proofs.locked.table_change.Goals as goal

pub returns-in-Some : goal.returns-in-Some
returns-in-Some c =
    subst (λ (ready : Ready). IfOk c.of_edits.result (IsChangeFor ready)) (sym c.in-Plan.is)
    (IfOk-weaker c.of_edits.result _ _ (λ change is. subst (IsChangeFor (readies.Plan c.in-Plan.plan)) (sym is) (for_plan c.in-Plan.plan c.in-Some.labels.now c.in-Some.tunnels.now c.in-Some.ensures.edits)) c.of_edits.ensures)

pub returns-in-None : goal.returns-in-None
returns-in-None c =
    subst (λ (ready : Ready). IsChangeFor ready c.no_change.result) (sym c.in-Plan.is)
    (subst (IsChangeFor (readies.Plan c.in-Plan.plan)) (sym c.no_change.ensures) (for_still c.in-Plan.plan c.in-None.ensures.edits))

pub returns-in-Start : goal.returns-in-Start
returns-in-Start c =
    subst (λ (ready : Ready). IsChangeFor ready c.no_change-in-Start.result) (sym c.in-Start.is) (subst (IsChangeFor readies.Start) (sym c.no_change-in-Start.ensures) for_start)

pub returns-in-Restart : goal.returns-in-Restart
returns-in-Restart c =
    subst (λ (ready : Ready). IsChangeFor ready c.restart.result) (sym c.in-Restart.is)
    (subst (IsChangeFor (readies.Restart c.in-Restart.changes_table)) (sym c.restart.ensures) (for_restart c.in-Restart.changes_table))
