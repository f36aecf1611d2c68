-- The sums so far, behind what there was.
use Rattle.std.proofs.Common.{◌≡◌, ◌++◌, take, string_bytes}
use Rattle.std.specs.List.{flat_map}
use Rattle.lsr_text.specs.Rows.{next_number}
use Rattle.lsr_text.proofs.rows.push_sums.Given as goal

abbrev pub invariant-loop-sum : goal.invariant-loop-sum
invariant-loop-sum l = string_bytes l.text ≡ string_bytes l.fn.text ++ flat_map next_number (take l.sum-index l.sums)
