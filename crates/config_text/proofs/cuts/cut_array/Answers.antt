-- The tables that are left, or all that there is.
use Rattle.std.proofs.Common.{rules}
use Rattle.config_text.proofs.Cutting.{items_cut, items_whole}
use Rattle.config_text.proofs.cuts.cut_array.Goals as goal

pub returns-then-are_tables : goal.returns-then-are_tables
returns-then-are_tables c = rw c.truncate.ensures.items (items_cut c.args.count c.args.values.items (search rules))

pub returns-else-are_tables : goal.returns-else-are_tables
returns-else-are_tables c = items_whole c.args.count c.args.values.items (search rules)
