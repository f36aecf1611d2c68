-- The lines of the labels so far.
use Rattle.std.proofs.Common.{◌≡◌, take, string_bytes}
use Rattle.lsr_text.specs.Rows.{table_text}
use Rattle.lsr_text.proofs.rows.table_text.Given as goal

abbrev pub invariant-loop-label : goal.invariant-loop-label
invariant-loop-label l = string_bytes l.text ≡ table_text (take l.label-index l.rows)
