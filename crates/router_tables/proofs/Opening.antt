-- Tables that are made empty say that the router is as it is opened.
use Rattle.std.specs.Prelude.{◌≡◌, ℕ, List}
use Rattle.std.proofs.Common.{ap, refl, subst, sym, ◌∙◌}
use Rattle.forwarding_table.specs.Actions.{Actions}
use Rattle.forwarding_table.specs.declared.action.Action.{Action}
use Rattle.label_table.specs.RowLaws.{table-no_path}
use Rattle.label_table.specs.Rows.{IsTableOf}
use Rattle.label_table.specs.TunnelLaws.{tunnel_table-none}
use Rattle.lsr_config.specs.Configs.{Setup}
use Rattle.lsr_facts.specs.Routers.{IsRouter}
use Rattle.lsr_facts.specs.declared.router.Router.{Router}
use Rattle.abstract_router.specs.Preempting.{claims_of}
use Rattle.abstract_router.specs.Soundness.{IsSound}
use Rattle.abstract_router.specs.States.{State}
use Rattle.abstract_router.specs.Steps.{opening}
use Rattle.abstract_router.specs.Tables.{tunnel_table_of}
use Rattle.router_soundness.specs.Assigned.{AreStanding}
use Rattle.router_soundness.proofs.AssigningStands.{stands_opening}
use Rattle.router_soundness.proofs.Running.{sound_opening}
use Rattle.router_tables.specs.States.{AreOpened, AreTables, RouterState, state_of}
use Rattle.router_tables.specs.declared.rows.Rows.{Rows}

-- They are those of a sound router.
pub opened_tables : (c : Setup) (t : Rows) → AreOpened c t → AreTables t
unfolding claims_of
opened_tables c t is =
    let router : t.router ≡ c.router = ap (λ (s : RouterState). s.router) is.is in
    let first : State = opening c.router c.routes c.tunnels c.bypasses in
    let state : state_of t ≡ first = ap (λ (s : RouterState). s.state) is.is in
    let actions : IsTableOf c.router first t.table.labels = subst (λ (rows : List (ℕ × Action)). IsTableOf c.router first rows) (sym (ap (λ (x : Actions). x.labels) is.table)) (table-no_path c.router first refl) in
    let sound : IsSound c.router first = sound_opening c.router c.routes c.tunnels c.bypasses is.config.router is.config.routes is.config.tunnels is.config.unchanging is.config.bypasses in
    record {
      router = subst IsRouter (sym router) is.config.router;
      sound = subst (λ (s : RouterState). IsSound s.router s.state) (sym is.is) sound;
      standing = subst (λ (s : RouterState). AreStanding s.router s.state) (sym is.is) (stands_opening c.router c.routes c.tunnels c.bypasses);
      period = is.period ∙ ap (λ (r : Router). r.refresh_ms) (sym router);
      upstream_period = is.upstream_period ∙ ap (λ (r : Router). r.refresh_ms) (sym router);
      claims = is.claims ∙ ap (λ (s : State). claims_of s.facts.paths s.resvs) (sym state);
      range = is.range ∙ ap (λ (r : Router). r.labels) (sym router);
      moment = is.moment;
      table = subst (λ (s : RouterState). IsTableOf s.router s.state t.table.labels) (sym is.is) actions;
      tunnel_table = ap (λ (x : Actions). x.tunnels) is.table ∙ sym (ap (λ (s : RouterState). tunnel_table_of s.router s.state) is.is ∙ tunnel_table-none c.router first refl refl);
    }
