use Rattle.std.proofs.Common.{◌≡◌, filter_map, take}
use Rattle.abstract_router.specs.Wanted.{backup_at, downstream_at}
use Rattle.wanted_messages.proofs.downstream.asked_in_turn.Given as goal

-- so many LSPs are asked what they want
abbrev pub invariant-loop-row : goal.invariant-loop-row
invariant-loop-row g l = record {
  rows : l.rows.items ≡ filter_map (λ e. downstream_at (g.V.StateView.router l.fn.view) (g.V.StateView.state l.fn.view) e.0) (take l.row-index l.touched);
  backups : l.backups.items ≡ filter_map (λ e. backup_at (g.V.StateView.router l.fn.view) (g.V.StateView.state l.fn.view) e.0) (take l.row-index l.touched);
}
