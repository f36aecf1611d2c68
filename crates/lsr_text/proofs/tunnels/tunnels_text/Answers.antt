-- One more tunnel has its line.
use Rattle.std.proofs.Common.{◌≡◌, ◌+◌, ◌++◌, ◌∷◌, [], ap, sym, ◌∙◌, ℕ, take, string_bytes}
use Rattle.std.proofs.lemmas.List.{take_more}
use Rattle.lsr_facts.specs.declared.tunnel.Tunnel.{Tunnel}
use Rattle.lsr_text.specs.Tunnels.{tunnel_line}
use Rattle.object_text.proofs.Growing.{rows_push_after}
use Rattle.lsr_text.proofs.tunnels.tunnels_text.Goals as goal

pub loop-tunnel-preserved : goal.loop-tunnel-preserved
loop-tunnel-preserved c =
    let tunnels = c.args.tunnels.now in
    let i = c.loop-tunnel.tunnel-index in
    let tunnel = c.tunnel-item.result in
    let more : take (i + 1) tunnels ≡ take i tunnels ++ tunnel ∷ [] = take_more tunnels i tunnel c.loop-tunnel-test.true ∙ ap (λ (p : ℕ × Tunnel). take i tunnels ++ p ∷ []) (sym c.tunnel-item.is) in
    rows_push_after tunnel_line [] (string_bytes c.loop-tunnel.text) (string_bytes c.push_tunnel.new.text) (take i tunnels) (take (i + 1) tunnels) tunnel c.loop-tunnel.invariant c.in_ok-push_tunnel.ensures more
