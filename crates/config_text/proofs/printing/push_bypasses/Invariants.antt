-- The records of the bypasses so far, after what there was.
use Rattle.std.proofs.Common.{◌≡◌, ◌++◌, take}
use Rattle.std.specs.List.{flat_map}
use Rattle.config_text.specs.Printing.{bypass_record}
use Rattle.config_text.proofs.printing.push_bypasses.Given as goal

abbrev pub invariant-loop-bypass : goal.invariant-loop-bypass
invariant-loop-bypass l = l.text.items ≡ l.fn.text.items ++ flat_map bypass_record (take l.bypass-index l.bypasses)
