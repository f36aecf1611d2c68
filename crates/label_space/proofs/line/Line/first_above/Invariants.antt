use Rattle.std.proofs.Common.{◌≡◌, ◌+◌, ◌++◌, ◌<◌, ℕ, List, length, get_or}
use Rattle.std.specs.List.{AllByRecursion, slice_get}
use Rattle.std.specs.Option.{unwrap_or}
use Rattle.label_space.proofs.line.Line.first_above.Given as goal

-- the line has two parts: the numbers of the places behind are more than this one, so many places were passed, and this is the
-- first of them
abbrev pub invariant-loop : goal.invariant-loop
invariant-loop l =
    (before : List ℕ)
    × (behind : List ℕ)
    × (l.self.line ≡ before ++ behind)
    × AllByRecursion (λ other. l.number < get_or l.numbers other 0) behind
    × (unwrap_or (slice_get behind 0) l.self.count ≡ l.behind)
    × (length behind ≡ l.counter)
