use Rattle.forwarding_table.specs.ForwardingLaws.{delivered-popped, popped-delivered}
use Rattle.forwarding_table.proofs.laws.what_is_popped_is_delivered.Goals as goal

pub returns : goal.returns
returns c = λ look stack. (delivered-popped look stack, popped-delivered look stack)
