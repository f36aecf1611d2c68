-- What bypasses run over: what the current LSPs of their tunnels are reserved over.
use Rattle.std.specs.Prelude.{◌≡◌, ◌&&◌, ◌||◌, ℕ, Bool, true, false, cond, T, List, [], ◌∷◌, filter_map, Option, Some, None}
use Rattle.std.specs.FinMap.Entries.{find, is_sorted, put}
use Rattle.std.specs.List.{list_any}
use Rattle.std.specs.Option.{option_and_then, option_map, option_map_or}
use Rattle.std.specs.Ordering.{eq_by_cmp, nat_cmp}
use Rattle.std.specs.declared.cmp.Ordering.{Ordering}
use Rattle.std.specs.declared.net.ipv4_addr.Ipv4Addr.{Ipv4Addr}
use Rattle.std.proofs.Common.{refl, sym, ap, ◌∙◌, inl, inr}
use Rattle.std.proofs.lemmas.Bool.{cases_eq}
use Rattle.std.proofs.lemmas.Cmp.{nat_cmp_total}
use Rattle.std.proofs.lemmas.Map.Lookups.{exact_unsigned}
use Rattle.sorted_rows.specs.RowsLaws.{find-put_apart, find-put_same}
use Rattle.lsr_facts.specs.Orders.{key_cmp}
use Rattle.lsr_facts.specs.Tunnels.{current_key, head_key}
use Rattle.lsr_facts.specs.declared.bypass.Bypass.{Bypass}
use Rattle.lsr_facts.specs.declared.router.Router.{Router}
use Rattle.lsr_facts.specs.declared.tunnel.Tunnel.{Tunnel}
use Rattle.lsr_facts.specs.declared.repair.BypassTunnel.{BypassTunnel}
use Rattle.lsr_facts.specs.declared.repair.Over.{Over}
use Rattle.lsr_facts.specs.declared.resv_fact.ResvFact.{ResvFact}
use Rattle.abstract_paths.specs.Changes.{with_tunnel}
use Rattle.abstract_paths.specs.Places.{is_up}
use Rattle.abstract_paths.specs.Tears.{leaves_by}
use Rattle.abstract_router.specs.BypassTunnels.{bypass_tunnel_by, bypass_tunnel_of, bypass_tunnels_of, over_at, over_by, over_of}
use Rattle.abstract_router.specs.States.{State, with_facts}
use Rattle.router_soundness.proofs.BypassTunnels.{RunsIn, over_at-is}
use Rattle.router_laws.proofs.TunnelEvents.{IsSameTunnel}

-- A row that is found, and whose value passes a test, is one that does.
pub found-any : {K X : Type 0} (cmp : K → K → Ordering) (test : X → Bool) (key : K) (value : X) (rows : List (K × X)) → find cmp key rows ≡ Some value → test value ≡ true → list_any (λ row. test row.1) rows ≡ true
found-any cmp test key value [] found passes = absurd (let e = found in cc)
found-any {K} {X} cmp test key value (row ∷ rows) found passes =
    elim (eq_by_cmp cmp key row.0) as (λ b. cond b (Some row.1) (find cmp key rows) ≡ Some value → (test row.1 || list_any (λ row. test row.1) rows) ≡ true) [
      | true ↦ λ own. let same : row.1 ≡ value = cc in ap (λ b. b || list_any (λ row. test row.1) rows) (ap test same ∙ passes)
      | false ↦ λ other. behind (test row.1) (found-any cmp test key value rows other passes)
    ] found
  where
    behind : (b : Bool) → list_any (λ row. test row.1) rows ≡ true → (b || list_any (λ row. test row.1) rows) ≡ true
    behind true h = refl
    behind false h = h

-- A tunnel is put that carries its traffic by the same LSP as before.
module _ (r : Router) (s : State) (number : ℕ) (old new : Tunnel) (found : find nat_cmp number s.facts.tunnels ≡ Some old) (same : IsSameTunnel old new) where
  abbrev after : State
  after = with_facts (with_tunnel number new s.facts) s

  -- a bypass by the end and the current LSP of its tunnel
  abbrev bypass_tunnel : Bypass → Ipv4Addr → ℕ → BypassTunnel
  bypass_tunnel bypass endpoint id = record { tunnel = bypass.tunnel; protects = bypass.link; ends_at = endpoint; capacity = bypass.capacity; over = option_and_then (over_by s.facts (head_key r bypass.tunnel endpoint id)) (find key_cmp (head_key r bypass.tunnel endpoint id) s.resvs) }

  agree : (bypass : ℕ × Bypass) → bypass_tunnel_by r after bypass ≡ bypass_tunnel_by r s bypass
  agree bypass = elim (cases_eq bypass.1.tunnel number) as (λ c. bypass_tunnel_by r after bypass ≡ bypass_tunnel_by r s bypass) [
    | inl own ↦
        ap (λ n. option_map (bypass_tunnel_of r after bypass.1) (find nat_cmp n (put nat_cmp number new s.facts.tunnels))) own
        ∙ ap (option_map (bypass_tunnel_of r after bypass.1)) (find-put_same nat_cmp nat_cmp_total number new s.facts.tunnels)
        ∙ (λ i. Some (bypass_tunnel bypass.1 (same.endpoint i) (same.current i).id))
        ∙ ap (option_map (bypass_tunnel_of r s bypass.1)) (sym found)
        ∙ ap (λ n. option_map (bypass_tunnel_of r s bypass.1) (find nat_cmp n s.facts.tunnels)) (sym own)
    | inr other ↦ ap (option_map (bypass_tunnel_of r after bypass.1)) (find-put_apart nat_cmp nat_cmp_total exact_unsigned bypass.1.tunnel number new s.facts.tunnels other)
  ]

  -- Bypasses run over what they ran over.
  pub bypass_tunnels-put : bypass_tunnels_of r after ≡ bypass_tunnels_of r s
  unfolding bypass_tunnels_of
  bypass_tunnels-put = λ i. filter_map (λ (bypass : ℕ × Bypass). option_map {U = ℕ × BypassTunnel} (λ bypass_tunnel. (bypass.0, bypass_tunnel)) (agree bypass i)) s.facts.bypasses

-- Its tunnel carries its traffic by the same LSP as before, which has the path and the reservation that it had.
pub record RunsOn (r : Router) (before after : State) (number : ℕ) (was : RunsIn before.facts number) : Type 0 where
  pub tunnel : Tunnel
  pub known : find nat_cmp number after.facts.bypasses ≡ Some was.bypass
  pub runs : find nat_cmp was.bypass.tunnel after.facts.tunnels ≡ Some tunnel
  pub same : IsSameTunnel was.tunnel tunnel
  pub path : find key_cmp (current_key r (was.bypass.tunnel, was.tunnel)) after.facts.paths ≡ find key_cmp (current_key r (was.bypass.tunnel, was.tunnel)) before.facts.paths
  pub resv : find key_cmp (current_key r (was.bypass.tunnel, was.tunnel)) after.resvs ≡ find key_cmp (current_key r (was.bypass.tunnel, was.tunnel)) before.resvs
  pub up : after.facts.up ≡ before.facts.up

-- what a reservation leads over, where it stands
abbrev over_where : Bool → ResvFact → Option Over
over_where stood resv = cond stood (Some (record { link = resv.link; label = resv.label })) None

-- Then the bypass runs over what it ran over.
pub over_at-same : (r : Router) (before after : State) (number : ℕ) → T (is_sorted nat_cmp before.facts.bypasses) → T (is_sorted nat_cmp after.facts.bypasses) → (was : RunsIn before.facts number) → RunsOn r before after number was → over_at (bypass_tunnels_of r after) number ≡ over_at (bypass_tunnels_of r before) number
over_at-same r before after number sorted sorted_after was on =
    over_at-is r after number sorted_after (record { bypass = was.bypass; tunnel = on.tunnel; known = on.known; runs = on.runs })
    ∙ (λ i. over_of r after (was.bypass.tunnel, record on.tunnel { endpoint = on.same.endpoint i; current = on.same.current i }))
    ∙ (λ i. option_and_then (λ (resv : ResvFact). over_where (is_up (on.up i) resv.link && option_map_or (leaves_by resv.link) (on.path i) false) resv) (on.resv i))
    ∙ sym (over_at-is r before number sorted was)
