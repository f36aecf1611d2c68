-- When each wanted item was sent last (RFC 2205, 3.7).
use Rattle.std.specs.Prelude.{ℕ, if◌then◌else◌, List, map}
use Rattle.std.specs.FinMap.Entries.{find}
use Rattle.std.specs.Option.{unwrap_or}
use Rattle.std.specs.declared.cmp.Ordering.{Ordering}
use Rattle.abstract_paths.specs.declared.events.Output.{Output}
use Rattle.abstract_paths.specs.Outputs.{rests}

-- The moment of a wanted item: that of the step where it is sent in it, else the one that it has. What rests was
-- wanted before, and so has one in a sound state.
abbrev pub stamp : {I : Type 0} → (I → I → Ordering) → List I → List (I × Output) → List (I × ℕ) → ℕ → I × Output → ℕ
stamp cmp due was sent now wants = if rests cmp due (find cmp wants.0 was) wants then unwrap_or (find cmp wants.0 sent) now else now

-- the moments of all that is wanted, in the order of items
abbrev pub stamps : {I : Type 0} → (I → I → Ordering) → List I → List (I × Output) → List (I × ℕ) → ℕ → List (I × Output) → List (I × ℕ)
stamps cmp due was sent now is = map (λ wants. (wants.0, stamp cmp due was sent now wants)) is
