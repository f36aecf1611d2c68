use Rattle.std.proofs.Common.{◌≡◌, ◌∷◌, take}
use Rattle.explicit_routes.proofs.copies.copy_behind.Given as goal

-- so many of the subobjects are copied after the first
abbrev pub invariant-loop-item : goal.invariant-loop-item
invariant-loop-item g l = l.copy.items ≡ l.fn.first ∷ take l.item-index l.items
