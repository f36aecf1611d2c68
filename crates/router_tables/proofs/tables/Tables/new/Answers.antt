-- The rows are those of the router as it is opened.
use Rattle.router_tables.proofs.Opening.{opened_tables}
use Rattle.router_tables.proofs.tables.Tables.new.Goals as goal

pub invariant_of-result : goal.invariant_of-result
invariant_of-result c = opened_tables c.args.config c.in_ok-rows_of.field-0 c.in_ok-rows_of.ensures

pub returns : goal.returns
returns c = c.in_ok-rows_of.ensures.is
