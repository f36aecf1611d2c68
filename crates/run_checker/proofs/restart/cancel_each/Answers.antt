-- One tunnel more.
use Rattle.std.proofs.Common.{◌<◌, ℕ, length, arith, ap, sym, set, get_or, ◌∙◌}
use Rattle.std.proofs.lemmas.List.Edits.{map_over_more}
use Rattle.lsr_facts.specs.Changes.{cancelled}
use Rattle.lsr_facts.specs.declared.tunnel.Tunnel.{Tunnel}
use Rattle.run_checker.proofs.restart.cancel_each.Goals as goal

pub loop-tunnel-preserved : goal.loop-tunnel-preserved
loop-tunnel-preserved c =
    let f : ℕ × Tunnel → ℕ × Tunnel = λ row. (row.0, cancelled row.1) in
    let before = c.args.tunnels.now.items in
    let rows = c.loop-tunnel.tunnel-items in
    let at = c.loop-tunnel.tunnel-index in
    let row = c.tunnel-item.result in
    let within : at < length before = omega arith in
    (λ i. set rows at ((get_or rows at row).0, c.cancel.ensures i))
    ∙ ap (λ (r : ℕ × Tunnel). set rows at (f r)) (sym c.tunnel-item.is)
    ∙ map_over_more f before rows at row within c.loop-tunnel.invariant c.tunnel-item.is
