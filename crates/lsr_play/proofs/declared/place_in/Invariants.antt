-- The name isn't one of those before the place.
use Rattle.std.proofs.Common.{◌≡◌, ◌+◌, ℕ, List, Bor, bytes_eq, drop}
use Rattle.std.specs.List.{position_or_len}
use Rattle.lsr_play.specs.Declaring.{place_of}
use Rattle.lsr_play.proofs.declared.place_in.Given as goal

abbrev pub invariant-loop-place : goal.invariant-loop-place
invariant-loop-place l = place_of l.names l.name ≡ l.place + place_of (drop l.place l.names) l.name
