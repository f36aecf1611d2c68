-- All of a step is said by equations.
use Rattle.router_soundness.proofs.Stepping.{same_step}
use Rattle.router_soundness.proofs.laws.one_step.Goals as goal

pub returns : goal.returns
returns c = same_step
