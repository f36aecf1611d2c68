-- The lines of the paths so far.
use Rattle.std.proofs.Common.{◌≡◌, take, string_bytes}
use Rattle.std.specs.List.{flat_map}
use Rattle.lsr_text.specs.Shown.{path_line}
use Rattle.lsr_text.proofs.shown.paths_text.Given as goal

abbrev pub invariant-loop-path : goal.invariant-loop-path
invariant-loop-path l = string_bytes l.text ≡ flat_map path_line (take l.path-index l.paths)
