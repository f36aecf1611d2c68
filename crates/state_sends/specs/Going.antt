-- Rows that are sent again.
use Rattle.std.specs.Prelude.{if◌then◌else◌, List, Option, Some, None}
use Rattle.std.specs.declared.cmp.Ordering.{Ordering}
use Rattle.abstract_paths.specs.declared.events.Output.{Output}
use Rattle.abstract_paths.specs.Outputs.{is_due}

-- a row, where its item is due
abbrev pub going : {I : Type 0} → (I → I → Ordering) → List I → I × Output → Option (I × Output)
going cmp due row = if is_due cmp due row.0 then Some row else None
