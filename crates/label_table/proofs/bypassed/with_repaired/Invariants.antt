use Rattle.std.proofs.Common.{◌≡◌, drop}
use Rattle.label_table.specs.Bypassed.{with_keys}
use Rattle.label_table.proofs.bypassed.with_repaired.Given as goal

-- the repairs from here on make of the keys what all of them make of these as they were
abbrev pub invariant-loop-place : goal.invariant-loop-place
invariant-loop-place g l =
    let repairs = (g.V.StateView.state l.view).repairs in
    with_keys (drop l.place repairs) l.all ≡ with_keys repairs l.fn.keys
