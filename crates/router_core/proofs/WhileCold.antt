-- The label table says nothing of whether a router is cold, and so neither does what becomes of datagrams by it.
use Rattle.std.specs.Prelude.{◌≡◌, ℕ, false, List, Result}
use Rattle.std.proofs.Common.{ap, subst}
use Rattle.label_stacks.specs.declared.entry.StackEntry.{StackEntry}
use Rattle.forwarding_table.specs.Forwarding.{forward_of}
use Rattle.forwarding_table.specs.declared.forwarding.Forwarding.{Forwarding}
use Rattle.lsr_facts.specs.declared.refusal.Refusal.{Refusal}
use Rattle.lsr_facts.specs.declared.router.Router.{Router}
use Rattle.abstract_router.specs.BypassTunnels.{bypass_tunnels_of}
use Rattle.abstract_router.specs.States.{State}
use Rattle.abstract_router.specs.LspLaws.{AreAlike, look-alike}
use Rattle.abstract_router.specs.Tables.{forwarded}
use Rattle.datagrams.specs.Datagrams.{IsDatagram}
use Rattle.datagrams.specs.declared.datagram.Datagram.{Datagram}
use Rattle.router_core.specs.Below.labels.RowLaws.{bypass_tunnels-alike}
use Rattle.router_core.specs.Readies.{with_cold}

-- a router knows this, and its tables say it as if it ran
abbrev pub IsAsRunning : State → State → Type 0
IsAsRunning s t = s ≡ with_cold false t

-- the same is known of LSPs
pub lsps_running : (s t : State) → IsAsRunning s t → AreAlike s t
lsps_running s t runs = record { resvs = ap (λ (x : State). x.resvs) runs; repairs = ap (λ (x : State). x.repairs) runs; labels = ap (λ (x : State). x.labels) runs; assignments = ap (λ (x : State). x.assignments) runs }

-- bypasses run over the same
pub bypass_tunnels_running : (r : Router) (s t : State) → IsAsRunning s t → bypass_tunnels_of r s ≡ bypass_tunnels_of r t
bypass_tunnels_running r s t runs =
    bypass_tunnels-alike r s t (ap (λ (x : State). x.facts.up) runs) (ap (λ (x : State). x.facts.tunnels) runs) (ap (λ (x : State). x.facts.bypasses) runs) (ap (λ (x : State). x.facts.paths) runs) (ap (λ (x : State). x.resvs) runs)

-- What a datagram is for a router that runs, it is for the same router while that is cold.
pub datagram_alike : (q r : Router) (s t : State) (link : ℕ) (bytes : List ℕ) (answer : Result Datagram Refusal) → q ≡ r → IsAsRunning s t
    → IsDatagram q (forwarded q s) link bytes answer → IsDatagram r (forwarded r t) link bytes answer
datagram_alike q r s t link bytes answer router runs is =
    let forwards : forwarded q s ≡ forwarded q t = λ i stack. forward_of (λ label. look-alike q s t label (bypass_tunnels_running q s t runs) (ap (λ (x : State). x.facts.paths) runs) (lsps_running s t runs) i) stack in
    subst (λ (p : Router). IsDatagram p (forwarded p t) link bytes answer) router (subst (λ (f : List StackEntry → Forwarding). IsDatagram q f link bytes answer) forwards is)
