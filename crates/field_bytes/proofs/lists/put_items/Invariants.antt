-- the items so far are written
use Rattle.std.proofs.Common.{◌≡◌, ◌++◌, take}
use Rattle.std.specs.List.{AllByRecursion, flat_map}
use Rattle.field_bytes.proofs.lists.put_items.Given as goal

abbrev pub invariant-loop-item : goal.invariant-loop-item
invariant-loop-item g l =
    (l.out.items ≡ l.initial.out.items ++ flat_map g.A.Field.spelling (take l.item-index l.items)) × AllByRecursion g.A.Field.Fits (take l.item-index l.items)
