use Rattle.plain_soundness.specs.Apart.{ArePairApart}
use Rattle.plain_soundness.proofs.Pairs.{apart}
use Rattle.plain_soundness.proofs.Telling.{told_of_pairs}
use Rattle.plain_soundness.proofs.apart.are_apart.Goals as goal

pub returns : goal.returns
returns c = told_of_pairs ArePairApart _ _ _ _ c.as_slice-rows.ensures.rows c.holds_of_all.ensures (apart c.args.paths.now c.as_slice-rows.ensures.sorted)
