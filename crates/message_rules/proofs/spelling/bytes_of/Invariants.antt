use Rattle.std.proofs.Common.{◌≡◌, take}
use Rattle.std.specs.List.{flat_map}
use Rattle.message_rules.proofs.spelling.bytes_of.Given as goal

-- so many of the subobjects are written
abbrev pub invariant-loop-item : goal.invariant-loop-item
invariant-loop-item g l = l.bytes.items ≡ flat_map g.T.Subobject.spelling (take l.item-index l.items)
