use Rattle.lsr_facts.specs.AdmissionLaws.{reserved_of-put_away, reserved_of-put_elsewhere, reserved_of-put_elsewhere-le}
use Rattle.lsr_facts.proofs.bandwidth_laws.a_claim_elsewhere_takes_nothing.Goals as goal

pub returns-clause-same : goal.returns-clause-same
returns-clause-same c = reserved_of-put_elsewhere

pub returns-clause-moved : goal.returns-clause-moved
returns-clause-moved c = reserved_of-put_away

pub returns-clause-less : goal.returns-clause-less
returns-clause-less c = reserved_of-put_elsewhere-le
