use Rattle.std.proofs.Common.{◌≡◌, None, take}
use Rattle.std.specs.FinMap.Entries.{find}
use Rattle.std.specs.Option.{option_and_then, option_or}
use Rattle.lsr_facts.specs.Orders.{key_cmp}
use Rattle.lsr_facts.specs.declared.key.Key.{Key}
use Rattle.state_views.specs.Edits.{edited}
use Rattle.bandwidth_protection.specs.Narrowing.{open_wish}
use Rattle.bandwidth_protection.proofs.opening.known_wishes.Given as goal

-- the wishes of so many LSPs are among them
abbrev pub invariant-loop-place : goal.invariant-loop-place
invariant-loop-place g l =
    let r = g.V.StateView.router l.fn.view in
    let s = g.V.StateView.state l.fn.view in
    (key : Key) → find key_cmp key l.all ≡ option_or (option_and_then (λ path. open_wish r (edited l.fn.edits s) l.fn.opening.kept l.fn.opening.left key) (find key_cmp key (take l.place s.facts.paths))) None
