-- The same path put twice is put once.
use Rattle.router_laws.proofs.Repeats.{path_repeats}
use Rattle.router_laws.proofs.stays.paths_repeat_silently.Goals as goal

pub returns : goal.returns
returns c = path_repeats
