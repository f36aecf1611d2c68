-- What is there already is put, so the same is known as before.
use Rattle.router_laws.proofs.Unchanged.{link_repeats}
use Rattle.router_laws.proofs.stays.links_repeat_silently.Goals as goal

pub returns : goal.returns
returns c = link_repeats
