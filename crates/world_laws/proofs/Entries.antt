-- What tables send is what routers hold.
use Rattle.std.specs.Prelude.{◌≡◌, ℕ, Some, is_some, option_map}
use Rattle.std.specs.FinMap.Entries.{find}
use Rattle.std.specs.Option.{option_and_then}
use Rattle.std.specs.Ordering.{nat_cmp}
use Rattle.std.specs.declared.net.ipv4_addr.Ipv4Addr.{Ipv4Addr}
use Rattle.std.proofs.Common.{ap, subst, sym, inl, inr, ◌∙◌}
use Rattle.std.proofs.lemmas.Option.{cond_some, option_and_then_some, same_Some}
use Rattle.lsr_facts.specs.Orders.{key_cmp}
use Rattle.lsr_facts.specs.Tunnels.{current_key}
use Rattle.lsr_facts.specs.declared.key.Key.{Key}
use Rattle.lsr_facts.specs.declared.path_fact.PathFact.{PathFact}
use Rattle.lsr_facts.specs.declared.repair.BypassTunnel.{BypassTunnel}
use Rattle.lsr_facts.specs.declared.repair.Over.{Over}
use Rattle.lsr_facts.specs.declared.resv_fact.ResvFact.{ResvFact}
use Rattle.lsr_facts.specs.declared.router.Router.{Router}
use Rattle.forwarding_table.specs.declared.action.Action.{Action}
use Rattle.abstract_router.specs.BypassTunnels.{bypass_tunnel_by, bypass_tunnel_of, bypass_tunnels_of, over_by}
use Rattle.abstract_router.specs.Standing.{stands}
use Rattle.abstract_router.specs.States.{State}
use Rattle.abstract_router.specs.Tables.{IsActionOf, IsPushOf, IsThrough}
use Rattle.router_soundness.proofs.BypassTunnels.{RunsIn, find-bypass_tunnels, over_at-is, runs-up}
use Rattle.router_soundness.proofs.Entries.{entry_stands, tunnel_entry_stands}
use Rattle.abstract_world.specs.Worlds.{WorldState}
use Rattle.world_laws.specs.Given.{IsGivenBy, IsGivenOver, name_of}
use Rattle.world_laws.specs.Sending.{AreLabelsGiven, IsGiven, IsGivenThrough}
use Rattle.world_laws.specs.Truths.{IsTrueRouter, IsTrueWorld}

module _ (w : WorldState) (place : ℕ) (r : Router) (s : State) (its : IsTrueRouter w place r s) where
  -- over what a bypass runs, its LSP is reserved
  over_given : (key : Key) (over : Over) → option_and_then (over_by s.facts key) (find key_cmp key s.resvs) ≡ Some over → IsGivenOver w (record { router = place; link = over.link }) (name_of key) over.label
  over_given key over is = option_and_then_some (over_by s.facts key) (find key_cmp key s.resvs) over is by
    where
      by : (resv : ResvFact) → find key_cmp key s.resvs ≡ Some resv → over_by s.facts key resv ≡ Some over → IsGivenOver w (record { router = place; link = over.link }) (name_of key) over.label
      by resv found is =
          let its_own : Over = record { link = resv.link; label = resv.label } in
          subst (λ (o : Over). IsGivenOver w (record { router = place; link = o.link }) (name_of key) o.label) (cond_some (stands s.facts (key, resv)) its_own over is).1 (its.resvs key resv found).label

  through_given : (key : Key) (is : IsThrough r s key) → IsGivenThrough w place r s key is.repair.resv.label is.over.label is.over.link
  through_given key is =
      let repair = is.repair in
      let sorted = its.sound.paths.bypasses.in_order in
      let held = its.repairs key repair is.repaired in
      let runs : RunsIn s.facts repair.bypass = runs-up r s repair.bypass sorted (ap is_some is.bypass) in
      let known : find nat_cmp repair.bypass (bypass_tunnels_of r s) ≡ Some (bypass_tunnel_of r s runs.bypass runs.tunnel) =
      find-bypass_tunnels r s repair.bypass sorted ∙ ap (option_and_then (λ bypass. bypass_tunnel_by r s (repair.bypass, bypass))) runs.known ∙ ap (option_map (bypass_tunnel_of r s runs.bypass)) runs.runs
      in
      let ends : held.bypass_tunnel.ends_at ≡ runs.tunnel.endpoint = ap (λ (b : BypassTunnel). b.ends_at) (same_Some held.bypass_tunnel (bypass_tunnel_of r s runs.bypass runs.tunnel) (sym held.known ∙ known)) in
      record {
        repair = repair;
        repaired = is.repaired;
        bypass = runs.bypass;
        known = runs.known;
        tunnel = runs.tunnel;
        runs = runs.runs;
        over = over_given (current_key r (runs.bypass.tunnel, runs.tunnel)) is.over (sym (over_at-is r s repair.bypass sorted runs) ∙ is.bypass);
        below = subst (λ (a : Ipv4Addr). IsGivenBy w a (name_of key) repair.resv.label) ends held.label;
      }

  action_given : (key : Key) (path : PathFact) (action : Action) → IsActionOf r s key path action → IsGiven w place r s key action
  action_given key path action (inl pop) = subst (IsGiven w place r s key) (sym pop.1) tt
  action_given key path action (inr (inl over)) = subst (IsGiven w place r s key) (sym over.1) (its.resvs key over.0.resv over.0.reserved).label
  action_given key path action (inr (inr through)) = subst (IsGiven w place r s key) (sym through.1) (through_given key through.0)

  push_given : (key : Key) (action : Action) → IsPushOf r s key action → IsGiven w place r s key action
  push_given key action (inl over) = subst (IsGiven w place r s key) (sym over.1) (its.resvs key over.0.resv over.0.reserved).label
  push_given key action (inr through) = subst (IsGiven w place r s key) (sym through.1) (through_given key through.0)

-- So each label that a table sends was given.
pub labels_given : (w : WorldState) → IsTrueWorld w → AreLabelsGiven w
labels_given w so = record {
  labels = λ place r s label action knows looked.
      let its = so.routers place r s knows in
      let entry = entry_stands r s label action its.sound looked in
      record { key = entry.key; held = entry.held; given = action_given w place r s its entry.key entry.path action entry.stands };
  tunnels = λ place r s number action knows looked.
      let its = so.routers place r s knows in
      let entry = tunnel_entry_stands r s number action its.sound looked in
      record { tunnel = entry.tunnel; known = entry.known; given = push_given w place r s its (current_key r (number, entry.tunnel)) action entry.stands };
}
