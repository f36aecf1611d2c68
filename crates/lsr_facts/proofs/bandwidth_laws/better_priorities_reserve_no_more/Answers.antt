use Rattle.lsr_facts.specs.AdmissionLaws.{reserved_of-better-le}
use Rattle.lsr_facts.proofs.bandwidth_laws.better_priorities_reserve_no_more.Goals as goal

pub returns : goal.returns
returns c = reserved_of-better-le
