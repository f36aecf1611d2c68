use Rattle.std.proofs.Common.{◌≡◌, ℕ, take}
use Rattle.std.specs.FinMap.Entries.{find}
use Rattle.std.specs.Option.{option_and_then, option_or}
use Rattle.std.specs.Ordering.{nat_cmp}
use Rattle.make_before_break.specs.Switching.{ready_at}
use Rattle.make_before_break.proofs.takeover.with_ready.Given as goal

-- those of so many numbers are among them
abbrev pub invariant-loop-row : goal.invariant-loop-row
invariant-loop-row g l =
    (number : ℕ) → find nat_cmp number l.all
    ≡ option_or (option_and_then (λ row. ready_at (g.A.StateView.router l.fn.after) (g.A.StateView.state l.fn.after) number) (find nat_cmp number (take l.row-index l.rows)))
    (find nat_cmp number l.fn.tunnels)
