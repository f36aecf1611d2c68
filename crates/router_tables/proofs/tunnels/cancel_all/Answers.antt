use Rattle.std.proofs.Common.{◌≡◌, Bool, map, true, refl, ap, ◌∙◌, ℕ}
use Rattle.sorted_rows.specs.ListLaws.{all-always, filter-all_pass}
use Rattle.lsr_facts.specs.declared.tunnel.Tunnel.{Tunnel}
use Rattle.lsr_facts.specs.Changes.{cancelled}
use Rattle.router_tables.proofs.tunnels.cancel_all.Goals as goal

pub returns : goal.returns
returns c =
    let stays : ℕ × Tunnel → Bool = λ _. true in
    c.sweep.ensures
    ∙ ap (map (λ (tunnel : ℕ × Tunnel). (tunnel.0, cancelled tunnel.1))) (filter-all_pass stays c.args.tunnels.now (all-always (λ (tunnel : ℕ × Tunnel). stays tunnel ≡ true) (λ _. refl) c.args.tunnels.now))
