-- What LSPs were given so far, and those from here on as all.
use Rattle.std.proofs.Common.{◌≡◌, ℕ, drop}
use Rattle.lsr_facts.specs.Orders.{key_cmp}
use Rattle.bypass_shares.specs.Left.{AreLeft}
use Rattle.bypass_shares.specs.Merged.{with_rows}
use Rattle.bypass_shares.specs.Shares.{each_in_turn, new_for}
use Rattle.bypass_shares.proofs.passes.give_each.Given as goal

abbrev pub invariant-loop-wish : goal.invariant-loop-wish
invariant-loop-wish l =
    (capacity : ℕ → ℕ) → AreLeft capacity l.fn.left l.kept → AreLeft capacity l.left (with_rows key_cmp l.made l.kept)
    × (each_in_turn key_cmp capacity (new_for key_cmp capacity) (with_rows key_cmp l.made l.kept) (drop l.wish-index l.wishes)
    ≡ each_in_turn key_cmp capacity (new_for key_cmp capacity) l.kept l.wishes)
