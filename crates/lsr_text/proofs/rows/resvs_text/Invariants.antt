-- The lines of the reservations so far.
use Rattle.std.proofs.Common.{◌≡◌, take, string_bytes}
use Rattle.std.specs.List.{flat_map}
use Rattle.lsr_text.specs.Rows.{resv_line}
use Rattle.lsr_text.proofs.rows.resvs_text.Given as goal

abbrev pub invariant-loop-resv : goal.invariant-loop-resv
invariant-loop-resv l = string_bytes l.text ≡ flat_map resv_line (take l.resv-index l.resvs)
