use Rattle.std.proofs.Common.{◌≡◌, false, take, true}
use Rattle.lsr_facts.specs.Orders.{key_cmp}
use Rattle.lsr_facts.specs.declared.key.Key.{Key}
use Rattle.abstract_paths.specs.Touched.{is_among}
use Rattle.state_views.specs.Edits.{edited}
use Rattle.state_sends.specs.Touching.{IsSaidAgain}
use Rattle.state_sends.proofs.touched.changed_among.Given as goal

-- of so many LSPs, those are among them of which messages don't say the same
abbrev pub invariant-loop-row : goal.invariant-loop-row
invariant-loop-row g l =
    (key : Key) → is_among key_cmp (take l.row-index l.lsps) key ≡ true → is_among key_cmp l.changed key ≡ false
    → IsSaidAgain g.I.KeptAlive.said (g.V.StateView.state l.view) (edited l.edits (g.V.StateView.state l.view)) key
