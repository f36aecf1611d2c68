use Rattle.std.proofs.Common.{◌≡◌, None, take}
use Rattle.std.specs.FinMap.Entries.{find}
use Rattle.std.specs.Option.{option_and_then, option_or}
use Rattle.lsr_facts.specs.Orders.{key_cmp}
use Rattle.lsr_facts.specs.declared.key.Key.{Key}
use Rattle.state_settling.specs.Promises.{promise_edit}
use Rattle.state_settling.proofs.promises.edits_of_known.Given as goal

-- the edits of so many LSPs are among them
abbrev pub invariant-loop-place : goal.invariant-loop-place
invariant-loop-place g l =
    let before = (g.V.StateView.state l.fn.view).assignments in
    (key : Key) → find key_cmp key l.all
    ≡ option_or (option_and_then (λ row. promise_edit before l.fn.now key) (find key_cmp key (take l.place before))) None
