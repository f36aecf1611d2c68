-- What is due does not rest.
use Rattle.router_laws.proofs.Ticks.{due_path, due_resv}
use Rattle.router_laws.proofs.moments.what_is_due_is_sent.Goals as goal

pub returns-clause-paths : goal.returns-clause-paths
returns-clause-paths c = λ r before after made n at item output sound x is done. due_path r before after made n at sound x is done item output

pub returns-clause-resvs : goal.returns-clause-resvs
returns-clause-resvs c = λ r before after made n at upstream output sound x is done. due_resv r before after made n at sound x is done upstream output
