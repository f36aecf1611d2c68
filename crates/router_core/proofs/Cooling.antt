-- What is forwarded doesn't depend on whether the router is cold.
use Rattle.std.proofs.Common.{◌≡◌, ℕ, Bool, true, false, refl, sym, ◌∙◌}
use Rattle.lsr_facts.specs.declared.router.Router.{Router}
use Rattle.abstract_router.specs.BypassTunnels.{bypass_tunnels_of}
use Rattle.abstract_router.specs.Lsps.{lsps_of}
use Rattle.abstract_router.specs.States.{State}
use Rattle.abstract_router.specs.Tables.{TellsChange, look, look_tunnel, table_of, tunnel_table_of}
use Rattle.router_core.specs.Readies.{with_cold}

look_cold : (r : Router) (s : State) (is_cold : Bool) (label : ℕ) → look r (with_cold is_cold s) label ≡ look r s label
unfolding look table_of lsps_of bypass_tunnels_of
look_cold r s is_cold label = refl

look_tunnel_cold : (r : Router) (s : State) (is_cold : Bool) (number : ℕ) → look_tunnel r (with_cold is_cold s) number ≡ look_tunnel r s number
unfolding look_tunnel tunnel_table_of bypass_tunnels_of
look_tunnel_cold r s is_cold number = refl

-- What is told of a change is told of it whether the router is cold after it or not.
pub told_cold : (changes : Bool) (r : Router) (before after : State) (is_cold : Bool) → TellsChange changes r before after → TellsChange changes r before (with_cold is_cold after)
told_cold false r before after is_cold alike = (λ label. alike.0 label ∙ sym (look_cold r after is_cold label), λ number. alike.1 number ∙ sym (look_tunnel_cold r after is_cold number))
told_cold true r before after is_cold changes = λ alike. changes (λ label. alike.0 label ∙ look_cold r after is_cold label, λ number. alike.1 number ∙ look_tunnel_cold r after is_cold number)

-- A start changes nothing of it.
pub told_started : (r : Router) (s : State) → TellsChange false r s (with_cold false s)
told_started r s = told_cold false r s s false (λ label. refl, λ number. refl)
