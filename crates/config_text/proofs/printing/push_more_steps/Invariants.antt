-- The steps so far, after what there was.
use Rattle.std.proofs.Common.{◌≡◌, ◌++◌, take, string_bytes}
use Rattle.std.specs.List.{flat_map}
use Rattle.config_text.specs.Printing.{next_step}
use Rattle.config_text.proofs.printing.push_more_steps.Given as goal

abbrev pub invariant-loop-step : goal.invariant-loop-step
invariant-loop-step l = string_bytes l.text ≡ string_bytes l.fn.text ++ flat_map next_step (take l.step-index l.steps)
