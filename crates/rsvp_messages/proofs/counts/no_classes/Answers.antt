use Rattle.std.proofs.Common.{false}
use Rattle.std.proofs.lemmas.List.{get_or-replicate}
use Rattle.rsvp_messages.proofs.counts.no_classes.Goals as goal

pub returns : goal.returns
returns c = λ class within. get_or-replicate 256 class false false within
