-- The bypass that an LSP is promised bandwidth of is a candidate still, and has room for it as before.
use Rattle.router_laws.proofs.KeptPromises.{promise_kept}
use Rattle.router_laws.proofs.promises.promises_are_kept_when_a_link_is_lost.Goals as goal

pub returns : goal.returns
returns c = promise_kept
