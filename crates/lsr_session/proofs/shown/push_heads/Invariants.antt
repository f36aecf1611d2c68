-- The lines of the tunnels so far, after what there was.
use Rattle.std.proofs.Common.{◌≡◌, ◌++◌, take, string_bytes}
use Rattle.std.specs.List.{flat_map}
use Rattle.lsr_session.specs.Requests.{head_text}
use Rattle.lsr_session.proofs.shown.push_heads.Given as goal

abbrev pub invariant-loop-tunnel : goal.invariant-loop-tunnel
invariant-loop-tunnel l = string_bytes l.text ≡ string_bytes l.fn.text ++ flat_map (head_text l.router) (take l.tunnel-index l.tunnels)
