use Rattle.plain_soundness.proofs.Labelling.{rest_apart}
use Rattle.plain_soundness.proofs.labels.are_apart.Goals as goal

pub returns : goal.returns
returns c =
    let means = rest_apart c.args.labels.now c.args.resting.now c.as_slice.ensures.sorted in
    (λ passes. means.0 (c.holds_of_all.ensures.0 passes), λ apart. c.holds_of_all.ensures.1 (means.1 apart))
