-- By the soundness of labels.
use Rattle.label_space.specs.BindingLaws.{one_key}
use Rattle.router_laws.proofs.Holders.{holds_label, label_of_path}
use Rattle.router_laws.proofs.label_holders.each_lsp_holds_a_label_of_its_own.Goals as goal

pub returns-clause-holds : goal.returns-clause-holds
returns-clause-holds c = λ r s key path is known goes. holds_label r s is key path known goes

pub returns-clause-only : goal.returns-clause-only
returns-clause-only c = λ r s key label is held. label_of_path r s is key label held

pub returns-clause-own : goal.returns-clause-own
returns-clause-own c = λ r s one other label is held too. one_key s.labels is.labels.apart one other label held too
