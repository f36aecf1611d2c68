-- The labels so far, after what there was.
use Rattle.std.proofs.Common.{◌≡◌, ◌++◌, take, string_bytes}
use Rattle.std.specs.List.{flat_map}
use Rattle.journal_lines.specs.Entries.{chosen_line}
use Rattle.journal_lines.proofs.entries.push_chosen.Given as goal

abbrev pub invariant-loop-row : goal.invariant-loop-row
invariant-loop-row l = string_bytes l.text ≡ string_bytes l.fn.text ++ flat_map chosen_line (take l.row-index l.chosen)
