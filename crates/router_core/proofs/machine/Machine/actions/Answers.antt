-- The tables say of labels what the router knows, also while it is cold.
use Rattle.std.specs.Prelude.{◌≡◌, ℕ, List, Result, Ok, Err, IfOk}
use Rattle.std.proofs.Common.{ap, subst}
use Rattle.forwarding_table.specs.declared.action.Action.{Action}
use Rattle.lsr_facts.specs.declared.router.Router.{Router}
use Rattle.abstract_router.specs.States.{State}
use Rattle.router_core.specs.Below.labels.RowLaws.{table-alike}
use Rattle.router_core.specs.Below.labels.Rows.{IsTableOf}
use Rattle.router_core.proofs.WhileCold.{IsAsRunning, bypass_tunnels_running, lsps_running}
use Rattle.router_core.proofs.machine.Machine.actions.Goals as goal

copied : {E : Type 0} (q r : Router) (s t : State) (copy : Result (List (ℕ × Action)) E) → q ≡ r → IsAsRunning s t → IfOk copy (IsTableOf q s) → IfOk copy (IsTableOf r t)
copied q r s t (Ok rows) router runs is =
    subst (λ (p : Router). IsTableOf p t rows) router (table-alike q s t rows (bypass_tunnels_running q s t runs) (ap (λ (s : State). s.facts.paths) runs) (lsps_running s t runs) is)
copied q r s t (Err error) router runs is = tt

pub returns : goal.returns
returns c =
    let knows = c.tables.ensures in
    copied c.tables.result.now.router c.args.self.now.router c.tables.result.now.state c.args.self.now.state c.actions.result
    knows.router knows.state c.actions.ensures
