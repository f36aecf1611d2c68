use Rattle.lsr_facts.proofs.Sessions.{same_place}
use Rattle.lsr_facts.proofs.session.is_tied.Goals as goal

pub returns : goal.returns
returns c = rw c.is_same_address.ensures (same_place c.args.address c.args.other)
