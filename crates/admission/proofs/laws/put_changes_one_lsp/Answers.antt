use Rattle.sorted_rows.specs.RowsLaws.{find-put_same, find-put_apart}
use Rattle.lsr_facts.specs.Orders.{key_cmp}
use Rattle.lsr_facts.specs.OrderLaws.{key_exact, key_total}
use Rattle.lsr_facts.specs.Claims.{claim_of}
use Rattle.admission.proofs.laws.put_changes_one_lsp.Goals as goal

pub returns-clause-fact : goal.returns-clause-fact
returns-clause-fact c = λ key fact holding b. find-put_same key_cmp key_total key fact b.resvs

pub returns-clause-claim : goal.returns-clause-claim
returns-clause-claim c = λ key fact holding b. find-put_same key_cmp key_total key (claim_of fact holding) b.claims

pub returns-clause-others : goal.returns-clause-others
returns-clause-others c = λ key other fact holding b apart. record {
  fact = find-put_apart key_cmp key_total key_exact other key fact b.resvs apart;
  claim = find-put_apart key_cmp key_total key_exact other key (claim_of fact holding) b.claims apart;
}
