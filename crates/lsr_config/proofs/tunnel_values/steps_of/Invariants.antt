use Rattle.std.proofs.Common.{map, take}
use Rattle.toml.specs.View.{view}
use Rattle.lsr_config.specs.Values.{SaysEach, SaysStep}
use Rattle.lsr_config.proofs.tunnel_values.steps_of.Given as goal

abbrev pub invariant-loop-value : goal.invariant-loop-value
invariant-loop-value l = SaysEach SaysStep (map view (take l.value-index l.values)) l.steps.items
