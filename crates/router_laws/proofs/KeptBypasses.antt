-- A bypass runs over what it ran over after a message that doesn't touch its tunnel's current LSP.
use Rattle.std.specs.Prelude.{◌≡◌, ℕ, Bool, true, false, cond, if◌then◌else◌, T, List, Some, None, Option, option_map}
use Rattle.std.specs.FinMap.Entries.{find, is_sorted}
use Rattle.std.specs.Option.{option_map_or}
use Rattle.std.specs.Ordering.{is_eq, nat_cmp}
use Rattle.std.proofs.Common.{refl, sym, ap, subst, ◌∙◌}
use Rattle.std.proofs.lemmas.Bool.{false_from_ne_true}
use Rattle.std.proofs.lemmas.List.Folds.{list_any-append}
use Rattle.rsvp_objects.specs.declared.values.ErrorSpec.{ErrorSpec}
use Rattle.lsr_facts.specs.Orders.{is_one_of, key_cmp}
use Rattle.lsr_facts.specs.Tunnels.{current_key, head_key}
use Rattle.lsr_facts.specs.declared.bypass.Bypass.{Bypass}
use Rattle.lsr_facts.specs.declared.facts.Facts.{Facts}
use Rattle.lsr_facts.specs.declared.key.Key.{Key}
use Rattle.lsr_facts.specs.declared.router.Router.{Router}
use Rattle.lsr_facts.specs.declared.tunnel.Tunnel.{Tunnel}
use Rattle.lsr_facts.specs.Changes.{switched}
use Rattle.abstract_paths.specs.declared.events.Event.TheVariants as events
use Rattle.abstract_paths.specs.declared.events.Made.{Made}
use Rattle.abstract_paths.specs.declared.ways.Arrive.{Arrive}
use Rattle.abstract_paths.specs.Changes.{with_tunnel}
use Rattle.abstract_paths.specs.Heads.{noted, with_noted}
use Rattle.abstract_router.specs.Arrivals.{arrival}
use Rattle.abstract_router.specs.BypassTunnels.{bypass_tunnels_of, over_at}
use Rattle.abstract_router.specs.Outcomes.{Outcome}
use Rattle.abstract_router.specs.Repairing.{repaired, repairs_left}
use Rattle.abstract_router.specs.Soundness.{IsSound}
use Rattle.abstract_router.specs.States.{State}
use Rattle.abstract_router.specs.Steps.{Step, given_up, is_ready, settled, switched_where, taken_over, with_moments}
use Rattle.router_laws.specs.TouchedBy.{touched_by, touched_by_way}
use Rattle.router_laws.proofs.Arriving.{arrival_leaves}
use Rattle.router_soundness.proofs.BypassTunnels.{RunsIn}
use Rattle.router_laws.proofs.BypassTunnels.{over_at-same}
use Rattle.router_soundness.proofs.TakingOver.{found_switched}
use Rattle.router_laws.proofs.GoingOver.{ready_given_up}
use Rattle.router_laws.proofs.Led.{led}
use Rattle.router_laws.proofs.Touching.{left-message, neither}
use Rattle.router_laws.proofs.TunnelEvents.{IsSameTunnel, IsTunnelThen, then_known}

-- the same bypasses are known, and each tunnel that is known has the current LSP that it had
record KeepsTunnels (before after : Facts) : Type 0 where
  bypasses : after.bypasses ≡ before.bypasses
  tunnels : (number : ℕ) (old : Tunnel) → find nat_cmp number before.tunnels ≡ Some old → IsTunnelThen number old after.tunnels

-- where these aren't touched, they are so
keeps-same : (before after : Facts) → after.bypasses ≡ before.bypasses → after.tunnels ≡ before.tunnels → KeepsTunnels before after
keeps-same before after bypasses same = record { bypasses = bypasses; tunnels = λ number old was. (old, ap (find nat_cmp number) same ∙ was, record { current = refl; endpoint = refl }) }

-- and where an error is noted
keeps-noted : (s : Facts) (e : ErrorSpec) (number : ℕ) → KeepsTunnels s (with_noted e number s)
keeps-noted s e number = by (find nat_cmp number s.tunnels) refl
  where
    by : (known : Option Tunnel) → find nat_cmp number s.tunnels ≡ known → KeepsTunnels s (option_map_or (λ t. with_tunnel number (noted e t) s) known s)
    by None its = keeps-same s s refl refl
    by (Some t) its = record { bypasses = refl; tunnels = λ n old was. then_known s.tunnels n number old t (noted e t) was its (record { current = refl; endpoint = refl }) }

module _ (r : Router) (before after : State) (made : Made) (arrived : Arrive) (is : IsSound r before) (x : Step r before made after) (event : made.event ≡ events.Arrive arrived)
    (number : ℕ) (was : RunsIn before.facts number) (apart : is_one_of (touched_by r before arrived) (current_key r (was.bypass.tunnel, was.tunnel)) ≡ false) where
  abbrev o : Outcome
  o = arrival r before arrived

  abbrev tunnel_number : ℕ
  tunnel_number = was.bypass.tunnel

  kept : KeepsTunnels before.facts o.after.facts
  kept = arrival_leaves r before (KeepsTunnels before.facts) (keeps-same before.facts before.facts refl refl) (λ key fact. keeps-same before.facts _ refl refl) (λ key. keeps-same before.facts _ refl refl) (keeps-noted before.facts) arrived

  -- its tunnel's current LSP isn't given up
  abbrev key : Key
  key = current_key r (tunnel_number, was.tunnel)

  stays : is_one_of (given_up r o.after) key ≡ false
  stays =
      let own = touched_by_way r before arrived.way arrived.link arrived.reading in
      (neither (is_one_of own key) (is_one_of (given_up r o.after) key) (sym (list_any-append (λ k. is_eq (key_cmp k key)) own (given_up r o.after)) ∙ apart)).1

  -- so the tunnel doesn't go over to another
  waits : (new : Tunnel) → find nat_cmp tunnel_number o.after.facts.tunnels ≡ Some new → IsSameTunnel was.tunnel new → is_ready r o.after (tunnel_number, new) ≡ false
  waits new found same =
      let own : current_key r (tunnel_number, new) ≡ key = λ i. head_key r tunnel_number (same.endpoint i) (same.current i).id in
      false_from_ne_true (is_ready r o.after (tunnel_number, new)) (λ ready.
      let goes = ap (is_one_of (given_up r o.after)) (sym own) ∙ ready_given_up r (is_ready r o.after) tunnel_number new o.after.facts.tunnels found ready in
      absurd (let e = sym stays ∙ goes in cc))

  tunnels_over : IsTunnelThen tunnel_number was.tunnel (taken_over r o.after).facts.tunnels
  unfolding taken_over
  tunnels_over =
      let then_one = kept.tunnels tunnel_number was.tunnel was.runs in (
        then_one.0,
        found_switched (is_ready r o.after) tunnel_number o.after.facts.tunnels
            ∙ ap (option_map (λ t. (switched_where (is_ready r o.after) (tunnel_number, t)).1)) then_one.1
            ∙ ap (λ b. Some (cond {A = ℕ × Tunnel} b (tunnel_number, switched then_one.0) (tunnel_number, then_one.0)).1) (waits then_one.0 then_one.1 then_one.2),
        then_one.2,
      )

  -- it is known after the step, and so is its tunnel
  abbrev IsKnown : Facts → Type 0
  IsKnown s = (s.bypasses ≡ before.facts.bypasses) × IsTunnelThen tunnel_number was.tunnel s.tunnels

  known_then : IsKnown after.facts
  unfolding taken_over repaired repairs_left
  known_then = subst (λ (s : State). IsKnown s.facts) (sym (led r before after made (events.Arrive arrived) o x event refl)) (by o.is_silent)
    where
      by : (silent : Bool) → IsKnown (if silent then o.after else with_moments r before o (settled r made.labels o.after)).facts
      by true = (kept.bypasses, kept.tunnels tunnel_number was.tunnel was.runs)
      by false = (kept.bypasses, tunnels_over)

  -- Its tunnel's current LSP has the reservation that it had, so it runs over what it ran over.
  pub runs_still : over_at (bypass_tunnels_of r after) number ≡ over_at (bypass_tunnels_of r before) number
  runs_still =
      let left = left-message r before after made arrived is x event in
      let sorted = is.paths.bypasses.in_order in
      over_at-same r before after number sorted (subst (λ (rows : List (ℕ × Bypass)). T (is_sorted nat_cmp rows)) (sym known_then.0) sorted) was
      (record {
        tunnel = known_then.1.0;
        known = ap (find nat_cmp number) known_then.0 ∙ was.known;
        runs = known_then.1.1;
        same = known_then.1.2;
        path = left.paths key apart;
        resv = left.resvs key apart;
        up = left.up;
      })
