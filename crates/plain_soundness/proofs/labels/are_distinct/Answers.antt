use Rattle.plain_soundness.specs.Labelled.{AreOthers}
use Rattle.plain_soundness.proofs.Labelling.{distinct_pairs}
use Rattle.plain_soundness.proofs.Telling.{told_of_pairs}
use Rattle.plain_soundness.proofs.labels.are_distinct.Goals as goal

pub returns : goal.returns
returns c = told_of_pairs AreOthers _ _ _ _ c.as_slice-rows.ensures.rows c.holds_of_all.ensures (distinct_pairs c.args.labels.now c.as_slice-rows.ensures.sorted)
