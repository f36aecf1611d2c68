-- What is refused is silent, and leaves the state.
use Rattle.router_soundness.proofs.Stepping.{step_refused}
use Rattle.router_soundness.proofs.laws.refusals_are_silent.Goals as goal

pub returns : goal.returns
returns c = step_refused
