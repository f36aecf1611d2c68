-- By what a step makes of labels.
use Rattle.router_laws.proofs.Holders.{new_was_free}
use Rattle.router_laws.proofs.label_holders.new_labels_were_free.Goals as goal

pub returns : goal.returns
returns c = new_was_free
