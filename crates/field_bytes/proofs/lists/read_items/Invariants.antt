-- so many items stand at the head of the bytes, and the rest behind them
use Rattle.std.proofs.Common.{◌≡◌, ◌++◌, length}
use Rattle.std.specs.List.{AllByRecursion, flat_map}
use Rattle.field_bytes.proofs.lists.read_items.Given as goal

abbrev pub invariant-loop-place : goal.invariant-loop-place
invariant-loop-place g l =
    (length l.items.items ≡ l._place) × (l.bytes ≡ flat_map g.A.Field.spelling l.items.items ++ l.rest) × AllByRecursion g.A.Field.Fits l.items.items
