use Rattle.std.proofs.Common.{◌≡◌, ◌≤◌, ◌*◌, ◌+◌, ◌++◌, length}
use Rattle.std.specs.List.{All}
use Rattle.label_stacks.specs.Entries.{IsEntry}
use Rattle.label_stacks.specs.Stacks.{stack_of, words_at}
use Rattle.label_stacks.proofs.reading.stack_of.Given as goal

-- the entries so far, and behind them those of the words that are left, are all
abbrev pub invariant-loop-left : goal.invariant-loop-left
invariant-loop-left l =
    (l.entries.items ++ stack_of (words_at l.left l.rest) ≡ stack_of (words_at l.count l.bytes))
    × (4 * l.left ≤ length l.rest)
    × (length l.entries.items + l.left ≡ l.count)
    × All IsEntry l.entries.items

abbrev pub decreases-loop-left : goal.decreases-loop-left
decreases-loop-left l = l.left
