-- The lines of the steps so far, after what there was.
use Rattle.std.proofs.Common.{◌≡◌, ◌++◌, take, string_bytes}
use Rattle.object_text.specs.Routes.{steps_text}
use Rattle.object_text.proofs.routes.push_steps.Given as goal

abbrev pub invariant-loop-step : goal.invariant-loop-step
invariant-loop-step l = string_bytes l.text ≡ string_bytes l.fn.text ++ steps_text (take l.step-index l.steps)
