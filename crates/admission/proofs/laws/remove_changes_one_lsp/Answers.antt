use Rattle.sorted_rows.specs.RowsLaws.{find-removed_same, find-removed_apart}
use Rattle.lsr_facts.specs.Orders.{key_cmp}
use Rattle.lsr_facts.specs.OrderLaws.{key_exact, key_total}
use Rattle.admission.proofs.laws.remove_changes_one_lsp.Goals as goal

pub returns-clause-fact : goal.returns-clause-fact
returns-clause-fact c = λ key b. find-removed_same key_cmp key_total key b.resvs

pub returns-clause-claim : goal.returns-clause-claim
returns-clause-claim c = λ key b. find-removed_same key_cmp key_total key b.claims

pub returns-clause-others : goal.returns-clause-others
returns-clause-others c = λ key other b apart. record {
  fact = find-removed_apart key_cmp key_total key_exact other key b.resvs apart;
  claim = find-removed_apart key_cmp key_total key_exact other key b.claims apart;
}
