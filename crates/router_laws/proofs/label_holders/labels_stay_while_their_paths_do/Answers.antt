-- By what a step makes of labels.
use Rattle.router_laws.proofs.Holders.{label_stays}
use Rattle.router_laws.proofs.label_holders.labels_stay_while_their_paths_do.Goals as goal

pub returns : goal.returns
returns c = λ r before after made key label path router is step held known goes. label_stays r before after made key label router is step path held known goes
