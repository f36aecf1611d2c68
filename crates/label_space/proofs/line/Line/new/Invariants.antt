use Rattle.std.proofs.Common.{◌≡◌, ◌∷◌}
use Rattle.std.specs.List.{range_with_len}
use Rattle.label_space.proofs.line.Line.new.Given as goal

-- so many places are linked to those on both sides, and the last of them to the one that comes next
abbrev pub invariant-loop-place : goal.invariant-loop-place
invariant-loop-place l =
    (l.next.items ≡ range_with_len 1 l.place) × (l.previous.items ≡ l.count ∷ range_with_len 0 l.place)
