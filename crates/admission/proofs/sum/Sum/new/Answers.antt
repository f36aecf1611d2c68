use Rattle.std.proofs.Common.{refl}
use Rattle.lsr_facts.specs.Claims.{rate_of_all}
use Rattle.admission.proofs.sum.Sum.new.Goals as goal

pub returns-clause-none : goal.returns-clause-none
unfolding rate_of_all
returns-clause-none c = record { total = refl; session = refl; shared = refl }
