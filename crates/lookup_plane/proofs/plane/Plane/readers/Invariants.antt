use Rattle.std.proofs.Common.{◌≡◌, length}
use Rattle.std.specs.List.{All}
use Rattle.lookup_plane.specs.Changes.{new_reader}
use Rattle.lookup_plane.proofs.plane.Plane.readers.Given as goal

-- so many readers so far, none of which has seen anything
abbrev pub invariant-loop : goal.invariant-loop
invariant-loop g l = (length l.readers.items ≡ l.counter) × All (λ reader. reader ≡ new_reader l.self.table) l.readers.items
