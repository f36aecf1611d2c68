-- How the Paths of the origins so far come, after what there was.
use Rattle.std.proofs.Common.{◌≡◌, ◌++◌, take, string_bytes}
use Rattle.std.specs.List.{flat_map}
use Rattle.lsr_session.specs.Lsps.{origin_words}
use Rattle.lsr_session.proofs.lsps.push_in.Given as goal

abbrev pub invariant-loop-row : goal.invariant-loop-row
invariant-loop-row l = string_bytes l.text ≡ string_bytes l.initial.text ++ flat_map origin_words (take l.row-index l.origins)
