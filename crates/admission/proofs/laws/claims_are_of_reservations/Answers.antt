use Rattle.std.proofs.Common.{Some, ap, ◌∙◌}
use Rattle.admission.proofs.Matching.{matched_found, matched_none}
use Rattle.admission.proofs.laws.claims_are_of_reservations.Goals as goal

pub returns-clause-taken : goal.returns-clause-taken
returns-clause-taken c = λ key fact b matched is.
    let found = matched_found key fact b.resvs b.claims matched is in
    (found.0.holding, found.2.kept, found.1 ∙ ap Some found.2.taken)

pub returns-clause-nothing : goal.returns-clause-nothing
returns-clause-nothing c = λ key b matched is. matched_none key b.resvs b.claims matched is
