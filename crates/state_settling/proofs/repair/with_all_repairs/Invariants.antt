use Rattle.std.proofs.Common.{◌≡◌, take}
use Rattle.std.specs.FinMap.Entries.{find}
use Rattle.std.specs.Option.{option_and_then, option_or}
use Rattle.lsr_facts.specs.Orders.{key_cmp}
use Rattle.lsr_facts.specs.declared.key.Key.{Key}
use Rattle.state_settling.specs.Repairs.{repair_at}
use Rattle.state_settling.proofs.repair.with_all_repairs.Given as goal

-- the repairs of so many LSPs are among them
abbrev pub invariant-loop-place : goal.invariant-loop-place
invariant-loop-place g l =
    (key : Key) → find key_cmp key l.all
    ≡ option_or (option_and_then (λ row. repair_at (g.A.StateView.router l.fn.after) (g.A.StateView.state l.fn.after) key) (find key_cmp key (take l.place (g.V.StateView.state l.fn.before).resvs)))
    (find key_cmp key l.fn.repairs)
