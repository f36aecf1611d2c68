use Rattle.std.proofs.Common.{◌≡◌, take}
use Rattle.std.specs.List.{flat_map}
use Rattle.abstract_router.specs.Upstreams.{upstream_at_key}
use Rattle.wanted_messages.proofs.upstream.asked_in_turn.Given as goal

-- so many LSPs are asked what they want
abbrev pub invariant-loop-row : goal.invariant-loop-row
invariant-loop-row g l =
    l.rows.items ≡ flat_map (λ e. upstream_at_key (g.V.StateView.router l.fn.view) (g.V.StateView.state l.fn.view) e.0) (take l.row-index l.touched)
