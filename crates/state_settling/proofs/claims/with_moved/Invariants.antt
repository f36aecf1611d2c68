use Rattle.std.proofs.Common.{◌≡◌, take}
use Rattle.std.specs.FinMap.Entries.{find}
use Rattle.sorted_rows.specs.Edits.{edited}
use Rattle.lsr_facts.specs.Orders.{key_cmp}
use Rattle.lsr_facts.specs.declared.key.Key.{Key}
use Rattle.state_settling.specs.Keeping.{edit_at, moved}
use Rattle.state_settling.proofs.claims.with_moved.Given as goal

-- the edits of so many LSPs are among them
abbrev pub invariant-loop-path : goal.invariant-loop-path
invariant-loop-path g l =
    (key : Key) → find key_cmp key l.edits
    ≡ edit_at (find key_cmp key l.fn.kept) (find key_cmp key (take l.path-index l.touched))
    (moved (g.V.StateView.state l.fn.view).facts.paths (edited key_cmp l.fn.paths (g.V.StateView.state l.fn.view).facts.paths) (g.V.StateView.state l.fn.view).resvs key)
