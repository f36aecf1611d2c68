use Rattle.forwarding_table.specs.ForwardingLaws.{forward_of-is_stack}
use Rattle.forwarding_table.proofs.laws.what_is_sent_is_a_stack.Goals as goal

pub returns : goal.returns
returns c = λ look stack out link writes is sent. forward_of-is_stack look writes stack link out is sent
