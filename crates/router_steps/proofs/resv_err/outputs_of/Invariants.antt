use Rattle.std.proofs.Common.{◌≡◌}
use Rattle.std.specs.Option.{option_to_list}
use Rattle.std.specs.List.{flat_map}
use Rattle.router_steps.proofs.resv_err.outputs_of.Given as goal

-- so many messages went on
abbrev pub invariant-loop-one : goal.invariant-loop-one
invariant-loop-one l = l.outputs ≡ flat_map option_to_list l.yielded
