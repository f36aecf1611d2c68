use Rattle.std.proofs.Common.{◌≡◌, take}
use Rattle.lsr_facts.specs.Orders.{key_cmp}
use Rattle.lsr_facts.specs.declared.key.Key.{Key}
use Rattle.abstract_paths.specs.Touched.{is_among}
use Rattle.state_sends.proofs.touched.known_lsps.Given as goal

-- so many of the LSPs that are known are among them
abbrev pub invariant-loop-place : goal.invariant-loop-place
invariant-loop-place g l = (key : Key) → is_among key_cmp l.all key ≡ is_among key_cmp (take l.place (g.V.StateView.state l.view).facts.paths) key
