-- The lines of the tunnels so far.
use Rattle.std.proofs.Common.{◌≡◌, take, string_bytes}
use Rattle.std.specs.List.{flat_map}
use Rattle.lsr_text.specs.Tunnels.{tunnel_line}
use Rattle.lsr_text.proofs.tunnels.tunnels_text.Given as goal

abbrev pub invariant-loop-tunnel : goal.invariant-loop-tunnel
invariant-loop-tunnel l = string_bytes l.text ≡ flat_map tunnel_line (take l.tunnel-index l.tunnels)
