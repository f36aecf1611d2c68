-- Tunnels in which bypasses run, and edits that leave them as they are.
use Rattle.std.specs.Prelude.{◌==◌, ◌&&◌, not, ℕ, Bool, List}
use Rattle.std.specs.List.{list_any}
use Rattle.lsr_facts.specs.Routers.{is_same}
use Rattle.lsr_facts.specs.declared.bypass.Bypass.{Bypass}
use Rattle.lsr_facts.specs.declared.key.Key.{Key}
use Rattle.lsr_facts.specs.declared.router.Router.{Router}
use Rattle.state_views.specs.declared.edits.Edits.{Edits}

-- one of these bypasses runs in the tunnel of this number
abbrev pub names_tunnel : List (ℕ × Bypass) → ℕ → Bool
names_tunnel bypasses number = list_any (λ bypass. bypass.1.tunnel == number) bypasses

-- the LSP is one of a tunnel that begins here, in which one of them runs
abbrev pub runs_bypass : Router → List (ℕ × Bypass) → Key → Bool
runs_bypass r bypasses key = is_same key.session.extended r.id && names_tunnel bypasses key.session.tunnel

-- neither a tunnel is edited in which one of them runs, nor the reservation or the path of one of its LSPs
abbrev pub leaves_tunnels : Router → List (ℕ × Bypass) → Edits → Bool
leaves_tunnels r bypasses e =
    not (list_any (λ tunnel. names_tunnel bypasses tunnel.0) e.tunnels)
    && (not (list_any (λ resv. runs_bypass r bypasses resv.0) e.resvs) && not (list_any (λ path. runs_bypass r bypasses path.0) e.paths))
