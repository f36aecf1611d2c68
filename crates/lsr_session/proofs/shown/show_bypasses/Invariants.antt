-- The lines of the bypasses so far.
use Rattle.std.proofs.Common.{◌≡◌, take, string_bytes}
use Rattle.std.specs.List.{flat_map}
use Rattle.lsr_session.specs.Requests.{bypass_text}
use Rattle.lsr_session.proofs.shown.show_bypasses.Given as goal

abbrev pub invariant-loop-row : goal.invariant-loop-row
invariant-loop-row l = string_bytes l.text ≡ flat_map (bypass_text l.router) (take l.row-index l.row-items)
