use Rattle.plain_soundness.specs.Styles.{ArePairOfOneStyle}
use Rattle.plain_soundness.proofs.Pairs.{one_style}
use Rattle.plain_soundness.proofs.Telling.{told_of_pairs}
use Rattle.plain_soundness.proofs.resvs.are_of_one_style.Goals as goal

pub returns : goal.returns
returns c = told_of_pairs ArePairOfOneStyle _ _ _ _ c.as_slice-rows.ensures.rows c.holds_of_all.ensures (one_style c.args.resvs.now c.as_slice-rows.ensures.sorted)
