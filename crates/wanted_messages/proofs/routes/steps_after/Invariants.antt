use Rattle.std.proofs.Common.{◌≡◌, drop}
use Rattle.std.specs.Option.{option_copied, option_or}
use Rattle.abstract_paths.specs.BackupRoutes.{steps_after}
use Rattle.wanted_messages.proofs.routes.steps_after.Given as goal

-- so many steps are passed: what is found so far stands where none of the others leads to the address
abbrev pub invariant-loop-place : goal.invariant-loop-place
invariant-loop-place l = option_or (steps_after l.address (drop l.place l.steps)) (option_copied l.found) ≡ steps_after l.address l.steps
