use Rattle.std.proofs.Common.{◌≡◌, take}
use Rattle.std.specs.FinMap.Entries.{find}
use Rattle.std.specs.Option.{option_and_then, option_or}
use Rattle.lsr_facts.specs.Orders.{key_cmp}
use Rattle.lsr_facts.specs.declared.key.Key.{Key}
use Rattle.bandwidth_protection.specs.Narrowing.{open_wish}
use Rattle.bandwidth_protection.proofs.opening.with_wishes.Given as goal

-- the wishes of so many LSPs are among them
abbrev pub invariant-loop-row : goal.invariant-loop-row
invariant-loop-row g l =
    (key : Key) → find key_cmp key l.all
    ≡ option_or (option_and_then (λ row. open_wish (g.A.StateView.router l.fn.after) (g.A.StateView.state l.fn.after) l.fn.opening.kept l.fn.opening.left key) (find key_cmp key (take l.row-index l.rows)))
    (find key_cmp key l.fn.wishes)
