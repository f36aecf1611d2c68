use Rattle.lsr_facts.specs.AdmissionLaws.{reserved_of-filter-le, reserved_of-where_key-le}
use Rattle.lsr_facts.proofs.bandwidth_laws.fewer_claims_reserve_no_more.Goals as goal

pub returns-clause-lsps : goal.returns-clause-lsps
returns-clause-lsps c = reserved_of-where_key-le

pub returns-clause-claims : goal.returns-clause-claims
returns-clause-claims c = reserved_of-filter-le
