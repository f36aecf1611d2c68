use Rattle.std.proofs.Common.{◌≡◌, take}
use Rattle.std.specs.Prelude.{◌||◌}
use Rattle.lsr_facts.specs.Orders.{key_cmp}
use Rattle.lsr_facts.specs.declared.key.Key.{Key}
use Rattle.abstract_paths.specs.Touched.{is_among}
use Rattle.state_sends.specs.Touching.{is_lsp_of}
use Rattle.state_sends.proofs.touched.with_lsps_of.Given as goal

-- the LSPs of so many of the items are among them
abbrev pub invariant-loop-item : goal.invariant-loop-item
invariant-loop-item g l =
    (key : Key) → is_among key_cmp l.all key ≡ (is_lsp_of g.I.KeptAlive.of (take l.item-index l.items) key || is_among key_cmp l.fn.keys key)
