-- The table has no more links than were read.
use Rattle.std.proofs.Common.{ap, arith, length}
use Rattle.std.proofs.lemmas.Cmp.{nat_cmp_total}
use Rattle.std.proofs.lemmas.Map.Lookups.{exact_unsigned}
use Rattle.std.proofs.lemmas.Result.{err_from_is_err_and}
use Rattle.std.specs.Ordering.{nat_cmp}
use Rattle.lsr_config.proofs.Judging.{fault_memory}
use Rattle.lsr_config.proofs.Placing.{length_in_order}
use Rattle.lsr_serve.proofs.sockets.read_document.Goals as goal

pub returns-in_err-table_of-clause-judged : goal.returns-in_err-table_of-clause-judged
returns-in_err-table_of-clause-judged c =
    let p = err_from_is_err_and c.from_residual-in_err-table_of.result c.from_residual-in_err-table_of.ensures.1 in
    rw (p.1, p.2) (fault_memory _)

pub returns-clause-few : goal.returns-clause-few
returns-clause-few c =
    omega (arith, ap length c.in_ok-table_of.ensures, length_in_order nat_cmp nat_cmp_total exact_unsigned c.in_ok-rows.rows.items, c.in_ok-rows.ensures.few)
