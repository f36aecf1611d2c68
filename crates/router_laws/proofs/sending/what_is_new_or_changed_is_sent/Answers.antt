-- What is new or changed does not rest.
use Rattle.router_laws.proofs.Sent.{new_path, new_resv}
use Rattle.router_laws.proofs.sending.what_is_new_or_changed_is_sent.Goals as goal

pub returns-clause-paths : goal.returns-clause-paths
returns-clause-paths c = new_path

pub returns-clause-resvs : goal.returns-clause-resvs
returns-clause-resvs c = new_resv
