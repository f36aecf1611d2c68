use Rattle.std.proofs.Common.{take}
use Rattle.std.specs.List.{AllByRecursion}
use Rattle.abstract_paths.specs.Events.{IsStep}
use Rattle.abstract_paths.proofs.laws.are_steps.Given as goal

-- so many of them can be
abbrev pub invariant-loop-step : goal.invariant-loop-step
invariant-loop-step l = AllByRecursion IsStep (take l.step-index l.steps)
