-- Nothing that follows from a path asks for its origins, but what they are sent.
use Rattle.router_laws.proofs.HeadAlone.{head_alone}
use Rattle.router_laws.proofs.Joined.{joins_path}
use Rattle.router_laws.proofs.merging.a_path_through_labels_changes_one_origin.Goals as goal

pub returns-clause-joins : goal.returns-clause-joins
returns-clause-joins c = joins_path

pub returns-clause-head_alone : goal.returns-clause-head_alone
returns-clause-head_alone c = head_alone
