use Rattle.std.proofs.Common.{◌∙◌}
use Rattle.plain_soundness.proofs.Telling.{told_of_keys}
use Rattle.plain_soundness.proofs.labels.are_of_lsps.Goals as goal

pub returns : goal.returns
returns c =
    told_of_keys _ _ _ _ _ (c.as_slice.ensures.value ∙ c.in_ok-holders.ensures) (c.as_slice-2.ensures.value ∙ c.in_ok-lsps.ensures) c.are_same_items.ensures
