-- The step of an event is made of what it does.
use Rattle.router_soundness.proofs.Stepping.{some_labels, step_of}
use Rattle.router_soundness.proofs.laws.running_routers_take_every_event.Goals as goal

pub returns-clause-any : goal.returns-clause-any
returns-clause-any c = step_of

pub returns-clause-some : goal.returns-clause-some
returns-clause-some c = some_labels

pub returns-clause-limit : goal.returns-clause-limit
returns-clause-limit c = λ r before made after x. x.passes

pub returns-clause-cold : goal.returns-clause-cold
returns-clause-cold c = λ r before made after cold x. x.awake cold
