-- What LSPs keep so far, and those from here on as all.
use Rattle.std.proofs.Common.{◌≡◌, ℕ, drop}
use Rattle.lsr_facts.specs.Orders.{key_cmp}
use Rattle.bypass_shares.specs.Left.{AreLeft}
use Rattle.bypass_shares.specs.Merged.{with_rows}
use Rattle.bypass_shares.specs.Shares.{each_in_turn, kept_for}
use Rattle.bandwidth_protection.specs.Keeping.{known_wishes}
use Rattle.bandwidth_protection.proofs.keeping.keep_each.Given as goal

abbrev pub invariant-loop-row : goal.invariant-loop-row
invariant-loop-row g l =
    let r = g.A.StateView.router l.after in
    let s = g.A.StateView.state l.after in
    (capacity : ℕ → ℕ) → AreLeft capacity l.fn.left l.used → AreLeft capacity l.left (with_rows key_cmp l.made l.used)
    × (each_in_turn key_cmp capacity (kept_for key_cmp capacity l.known) (with_rows key_cmp l.made l.used) (known_wishes r s (drop l.row-index l.known))
    ≡ each_in_turn key_cmp capacity (kept_for key_cmp capacity l.known) l.used (known_wishes r s l.known))
