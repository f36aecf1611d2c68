use Rattle.std.proofs.Common.{◌≡◌, ap, refl, subst, sym, ◌∙◌, ℕ, List}
use Rattle.admission.specs.Bandwidths.{Bandwidth}
use Rattle.forwarding_table.specs.Actions.{Actions}
use Rattle.forwarding_table.specs.declared.action.Action.{Action}
use Rattle.label_space.specs.Bindings.{Bindings}
use Rattle.label_table.specs.RowLaws.{table-no_path}
use Rattle.label_table.specs.Rows.{IsTableOf}
use Rattle.label_table.specs.TunnelLaws.{tunnel_table-none}
use Rattle.lsr_facts.specs.declared.key.Item.{Item}
use Rattle.refresh_timers.specs.Timers.{Timers}
use Rattle.lsr_facts.specs.declared.upstream.Upstream.{Upstream}
use Rattle.abstract_router.specs.Preempting.{claims_of}
use Rattle.abstract_router.specs.Soundness.{IsSound}
use Rattle.abstract_router.specs.States.{State}
use Rattle.abstract_router.specs.Tables.{tunnel_table_of}
use Rattle.router_soundness.specs.Assigned.{AreStanding}
use Rattle.router_soundness.proofs.AssigningStands.{stands_bare}
use Rattle.router_tables.specs.States.{emptied, facts_of, state_of}
use Rattle.router_tables.proofs.Emptying.{sound_emptied}
use Rattle.router_tables.proofs.rows.forget.Goals as goal

pub returns-clause-tables : goal.returns-clause-tables
unfolding claims_of
returns-clause-tables c =
    let t = c.args.rows.now in
    let state : state_of (record t { tunnels = c.cancel_all.new.tunnels; paths = c.clear.new.self; timers = c.clear_all.new.self; bandwidth = c.clear-2.new.self; repairs = c.clear-3.new.self; assignments = c.clear-4.new.self; labels = c.clear-5.new.self; upstream = c.clear_all-2.new.self; table = c.clear-6.new.self }) ≡ emptied (state_of t) =
    λ i. record {
      facts = record (facts_of t) { tunnels = c.cancel_all.ensures i; paths = c.clear.ensures i; sent = (c.clear_all.ensures i).sent };
      resvs = (c.clear-2.ensures i).resvs;
      repairs = c.clear-3.ensures i;
      assignments = c.clear-4.ensures i;
      labels = (c.clear-5.ensures i).labels;
      resting = (c.clear-5.ensures i).resting;
      sent_upstream = (c.clear_all-2.ensures i).sent;
    } in
    record {
      router = c.requires.router;
      sound = subst (IsSound t.router) (sym state) (sound_emptied t.router (state_of t) c.requires.sound);
      standing = subst (AreStanding t.router) (sym state) (stands_bare t.router (emptied (state_of t)).facts);
      period = ap (λ (timers : Timers Item). timers.refresh_ms) c.clear_all.ensures ∙ c.requires.period;
      upstream_period = ap (λ (timers : Timers Upstream). timers.refresh_ms) c.clear_all-2.ensures ∙ c.requires.upstream_period;
      claims = ap (λ (b : Bandwidth). b.claims) c.clear-2.ensures ∙ sym (λ i. claims_of (c.clear.ensures i) (c.clear-2.ensures i).resvs);
      range = ap (λ (labels : Bindings). labels.range) c.clear-5.ensures ∙ c.requires.range;
      moment = ap (λ (labels : Bindings). labels.moment) c.clear-5.ensures ∙ c.requires.moment;
      table = subst (λ (s : State). IsTableOf t.router s c.clear-6.new.self.labels) (sym state) (subst (λ (rows : List (ℕ × Action)). IsTableOf t.router (emptied (state_of t)) rows) (sym (ap (λ (table : Actions). table.labels) c.clear-6.ensures)) (table-no_path t.router (emptied (state_of t)) refl));
      tunnel_table =
          ap (λ (table : Actions). table.tunnels) c.clear-6.ensures
          ∙ sym (ap (tunnel_table_of t.router) state ∙ tunnel_table-none t.router (emptied (state_of t)) refl refl);
    }
