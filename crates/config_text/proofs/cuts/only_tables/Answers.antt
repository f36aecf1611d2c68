-- The values are all tables, or aren't.
use Rattle.std.proofs.Common.{rules}
use Rattle.config_text.proofs.Cutting.{tables_all, tables_none}
use Rattle.config_text.proofs.cuts.only_tables.Goals as goal

pub returns-then-are_tables : goal.returns-then-are_tables
returns-then-are_tables c = tables_all c.args.values.now (search rules)

pub returns-else-are_tables : goal.returns-else-are_tables
returns-else-are_tables c = tables_none c.args.values.now (search rules)
