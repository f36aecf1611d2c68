use Rattle.std.proofs.Common.{rules}
use Rattle.std.proofs.lemmas.Fn.{filter_same}
use Rattle.sorted_rows.proofs.reserved.keep_staying.Goals as goal

pub returns-clause-rows : goal.returns-clause-rows
returns-clause-rows g c = filter_same _ (g.S.Sweep.stays c.args.sweep.now) _ (λ x b f' k. search rules) _ _ c.retain.ensures.filtered
