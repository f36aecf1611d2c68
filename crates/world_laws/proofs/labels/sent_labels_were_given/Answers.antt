-- What tables send is what routers hold.
use Rattle.world_laws.proofs.Entries.{labels_given}
use Rattle.world_laws.proofs.labels.sent_labels_were_given.Goals as goal

pub returns : goal.returns
returns c = labels_given
