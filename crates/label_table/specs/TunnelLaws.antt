-- What a state's table of tunnels has for a tunnel: the action of its current LSP, where that is reserved or repaired.
use Rattle.std.specs.Prelude.{◌≡◌, ℕ, ◌≤◌, T, List, [], ◌∷◌, filter_map, length}
use Rattle.std.specs.FinMap.Entries.{find, is_sorted}
use Rattle.std.specs.List.{cons_option}
use Rattle.std.specs.Option.{option_and_then, option_map, option_or}
use Rattle.std.specs.Ordering.{nat_cmp}
use Rattle.std.proofs.Common.{ap, refl}
use Rattle.std.proofs.lemmas.Cmp.{nat_cmp_total}
use Rattle.std.proofs.lemmas.Map.Lookups.{exact_unsigned}
use Rattle.lsr_facts.specs.Orders.{key_cmp}
use Rattle.lsr_facts.specs.Tunnels.{current_key}
use Rattle.lsr_facts.specs.declared.router.Router.{Router}
use Rattle.lsr_facts.specs.declared.tunnel.Tunnel.{Tunnel}
use Rattle.forwarding_table.specs.declared.action.Action.{Action}
use Rattle.abstract_paths.specs.TouchedLaws.{find-made, is_sorted-made}
use Rattle.abstract_router.specs.BypassTunnels.{bypass_tunnels_of}
use Rattle.abstract_router.specs.States.{State}
use Rattle.abstract_router.specs.Tables.{look_tunnel, push_by, push_of, push_through, tunnel_table_of}
use Rattle.label_table.specs.RowLaws.{length_asked}
use Rattle.label_table.specs.TunnelRows.{push_at}

-- A tunnel has the action of its current LSP.
pub look_tunnel-at : (r : Router) (s : State) → T (is_sorted nat_cmp s.facts.tunnels) → (number : ℕ) → look_tunnel r s number ≡ push_at r s number
unfolding look_tunnel tunnel_table_of
look_tunnel-at r s sorted number = find-made nat_cmp nat_cmp_total exact_unsigned (push_of r s) number s.facts.tunnels sorted

-- a tunnel has an action where it is among the rows
pub look_tunnel-row : (r : Router) (s : State) (number : ℕ) → look_tunnel r s number ≡ find nat_cmp number (tunnel_table_of r s)
unfolding look_tunnel
look_tunnel-row r s number = refl

-- The rows stand in the order of the tunnels.
pub is_sorted-tunnel_table : (r : Router) (s : State) → T (is_sorted nat_cmp s.facts.tunnels) → T (is_sorted nat_cmp (tunnel_table_of r s))
unfolding tunnel_table_of
is_sorted-tunnel_table r s sorted = is_sorted-made nat_cmp nat_cmp_total exact_unsigned (push_of r s) s.facts.tunnels sorted

-- There are no more of them than tunnels.
pub length_tunnel_table : (r : Router) (s : State) → length (tunnel_table_of r s) ≤ length s.facts.tunnels
unfolding tunnel_table_of
length_tunnel_table r s = length_asked (λ (tunnel : ℕ × Tunnel). option_map {U = ℕ × Action} (λ action. (tunnel.0, action)) (push_of r s tunnel)) s.facts.tunnels

-- Where nothing is reserved or repaired no tunnel has an action.
none_pushed : (r : Router) (s : State) → s.resvs ≡ [] → s.repairs ≡ [] → (tunnels : List (ℕ × Tunnel)) → filter_map (λ (tunnel : ℕ × Tunnel). option_map {U = ℕ × Action} (λ action. (tunnel.0, action)) (push_of r s tunnel)) tunnels ≡ []
none_pushed r s no_resv no_repair [] = refl
none_pushed r s no_resv no_repair (tunnel ∷ tunnels) =
    λ i. cons_option (option_map {U = ℕ × Action} (λ action. (tunnel.0, action))
    (option_or (option_map push_by (find key_cmp (current_key r tunnel) (no_resv i))) (option_and_then (push_through (bypass_tunnels_of r s)) (find key_cmp (current_key r tunnel) (no_repair i)))))
    (none_pushed r s no_resv no_repair tunnels i)

pub tunnel_table-none : (r : Router) (s : State) → s.resvs ≡ [] → s.repairs ≡ [] → tunnel_table_of r s ≡ []
unfolding tunnel_table_of
tunnel_table-none r s no_resv no_repair = none_pushed r s no_resv no_repair s.facts.tunnels

-- The table stands on tunnels, on reservations and repairs, and on what bypasses run over alone.
pub tunnel_table-alike : (r : Router) (s t : State) → bypass_tunnels_of r s ≡ bypass_tunnels_of r t → s.facts.tunnels ≡ t.facts.tunnels → s.resvs ≡ t.resvs → s.repairs ≡ t.repairs → tunnel_table_of r s ≡ tunnel_table_of r t
unfolding tunnel_table_of
tunnel_table-alike r s t bypass_tunnels tunnels resvs repairs =
    λ i. filter_map (λ (tunnel : ℕ × Tunnel). option_map {U = ℕ × Action} (λ action. (tunnel.0, action))
    (option_or (option_map push_by (find key_cmp (current_key r tunnel) (resvs i))) (option_and_then (push_through (bypass_tunnels i)) (find key_cmp (current_key r tunnel) (repairs i))))) (tunnels i)

pub look_tunnel-alike : (r : Router) (s t : State) (number : ℕ) → bypass_tunnels_of r s ≡ bypass_tunnels_of r t → s.facts.tunnels ≡ t.facts.tunnels → s.resvs ≡ t.resvs → s.repairs ≡ t.repairs → look_tunnel r s number ≡ look_tunnel r t number
unfolding look_tunnel
look_tunnel-alike r s t number bypass_tunnels tunnels resvs repairs = ap (find nat_cmp number) (tunnel_table-alike r s t bypass_tunnels tunnels resvs repairs)
