use Rattle.std.proofs.Common.{refl}
use Rattle.std.specs.FinMap.Entries.{find}
use Rattle.lsr_facts.specs.Orders.{key_cmp}
use Rattle.lsr_facts.specs.declared.claim.Claim.{Claim}
use Rattle.admission.proofs.Holdings.{find_become, find_other}
use Rattle.admission.proofs.laws.set_holding_changes_one_lsp.Goals as goal

pub returns-clause-claim : goal.returns-clause-claim
returns-clause-claim c = λ key holding b. find_become (λ (claim : Claim). record claim { holding = holding }) key b.claims (find key_cmp key b.claims) refl

pub returns-clause-others : goal.returns-clause-others
returns-clause-others c = λ key other holding b apart. record {
  fact = refl;
  claim = find_other (λ (claim : Claim). record claim { holding = holding }) key b.claims other apart (find key_cmp key b.claims);
}
