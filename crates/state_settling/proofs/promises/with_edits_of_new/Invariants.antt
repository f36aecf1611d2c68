use Rattle.std.proofs.Common.{◌≡◌, take}
use Rattle.std.specs.FinMap.Entries.{find}
use Rattle.std.specs.Option.{option_and_then, option_or}
use Rattle.lsr_facts.specs.Orders.{key_cmp}
use Rattle.lsr_facts.specs.declared.key.Key.{Key}
use Rattle.state_settling.specs.Promises.{promise_edit}
use Rattle.state_settling.proofs.promises.with_edits_of_new.Given as goal

-- the edits of so many LSPs are among them
abbrev pub invariant-loop-row : goal.invariant-loop-row
invariant-loop-row g l =
    (key : Key) → find key_cmp key l.all
    ≡ option_or (option_and_then (λ row. promise_edit (g.V.StateView.state l.fn.view).assignments l.fn.now key) (find key_cmp key (take l.row-index l.fn.now)))
    (find key_cmp key l.fn.edits)
