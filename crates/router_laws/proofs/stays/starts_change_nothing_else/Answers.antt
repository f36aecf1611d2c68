-- So is a start.
use Rattle.router_laws.proofs.Unchanged.{start_rest}
use Rattle.router_laws.proofs.stays.starts_change_nothing_else.Goals as goal

pub returns : goal.returns
returns c = start_rest
