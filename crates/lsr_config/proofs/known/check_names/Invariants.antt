use Rattle.std.proofs.Common.{map, string_bytes}
use Rattle.std.specs.List.{AllByRecursion}
use Rattle.std.specs.Map.Iter.{deref}
use Rattle.lsr_config.specs.Rules.{known, Holds}
use Rattle.lsr_config.proofs.known.check_names.Given as goal

abbrev pub invariant-loop-name : goal.invariant-loop-name
invariant-loop-name l = AllByRecursion Holds (map (known l.keys) (map string_bytes (map deref l.yielded)))
