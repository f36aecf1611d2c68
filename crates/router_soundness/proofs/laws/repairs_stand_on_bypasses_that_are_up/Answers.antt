-- Repairs stand in a sound state.
use Rattle.router_soundness.proofs.Standing.{repair_on_bypass}
use Rattle.router_soundness.proofs.laws.repairs_stand_on_bypasses_that_are_up.Goals as goal

pub returns : goal.returns
returns c = repair_on_bypass
