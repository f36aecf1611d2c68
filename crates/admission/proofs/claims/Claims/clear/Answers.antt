use Rattle.std.proofs.Common.{subst, sym}
use Rattle.admission.specs.Bandwidths.{AreRated}
use Rattle.admission.specs.Running.{AreSums}
use Rattle.admission.proofs.Keeping.{sums_anew}
use Rattle.admission.proofs.claims.Claims.clear.Goals as goal

pub invariant_of-self : goal.invariant_of-self
invariant_of-self c =
    let sums = c.add_up.new.sums.items in
    (subst AreRated (sym c.clear.ensures) tt, subst (λ rows. AreSums rows sums) c.as_slice.ensures.rows (sums_anew c.as_slice.result.now c.self.inside.sums.items sums c.add_up.ensures))
