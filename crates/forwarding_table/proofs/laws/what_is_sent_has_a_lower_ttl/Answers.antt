use Rattle.forwarding_table.specs.ForwardingLaws.{forward_of-is_sent}
use Rattle.forwarding_table.proofs.laws.what_is_sent_has_a_lower_ttl.Goals as goal

pub returns : goal.returns
returns c = λ look stack out link sent. forward_of-is_sent look stack link out sent
