-- The records of the tunnels so far, after what there was.
use Rattle.std.proofs.Common.{◌≡◌, ◌++◌, take}
use Rattle.std.specs.List.{flat_map}
use Rattle.config_text.specs.Printing.{tunnel_record}
use Rattle.config_text.proofs.printing.push_tunnels.Given as goal

abbrev pub invariant-loop-tunnel : goal.invariant-loop-tunnel
invariant-loop-tunnel l = l.text.items ≡ l.fn.text.items ++ flat_map tunnel_record (take l.tunnel-index l.tunnels)
