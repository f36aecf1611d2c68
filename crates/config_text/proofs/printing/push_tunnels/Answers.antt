-- One more record stands there.
use Rattle.std.proofs.Common.{◌+◌, ◌++◌, ◌∷◌, [], ap, sym, ◌∙◌, ℕ, take}
use Rattle.std.proofs.lemmas.List.{take_more}
use Rattle.lsr_facts.specs.declared.tunnel.Tunnel.{Tunnel}
use Rattle.config_text.specs.Printing.{tunnel_record}
use Rattle.object_text.proofs.Growing.{rows_push_after}
use Rattle.config_text.proofs.printing.push_tunnels.Goals as goal

pub loop-tunnel-preserved : goal.loop-tunnel-preserved
loop-tunnel-preserved c =
    let tunnels = c.args.tunnels.now in
    let i = c.loop-tunnel.tunnel-index in
    let tunnel = c.tunnel-item.result in
    rows_push_after tunnel_record c.args.text.now.items c.loop-tunnel.text.items c.push_tunnel_record.new.text.items (take i tunnels) (take (i + 1) tunnels) tunnel c.loop-tunnel.invariant c.in_ok-push_tunnel_record.ensures (take_more tunnels i tunnel c.loop-tunnel-test.true ∙ ap (λ (p : ℕ × Tunnel). take i tunnels ++ p ∷ []) (sym c.tunnel-item.is))
