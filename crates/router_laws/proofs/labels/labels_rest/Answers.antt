-- From the step that frees it on the label rests, or its rest is over, and none is given that rests.
use Rattle.router_laws.proofs.Rested.{labels_rest}
use Rattle.router_laws.proofs.labels.labels_rest.Goals as goal

pub returns : goal.returns
returns c = labels_rest
