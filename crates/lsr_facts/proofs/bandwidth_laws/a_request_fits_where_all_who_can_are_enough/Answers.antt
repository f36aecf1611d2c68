use Rattle.lsr_facts.specs.AdmissionLaws.{in_turn-is_enough, reserved_of-in_turn_gone}
use Rattle.lsr_facts.proofs.bandwidth_laws.a_request_fits_where_all_who_can_are_enough.Goals as goal

pub returns-clause-left : goal.returns-clause-left
returns-clause-left c = reserved_of-in_turn_gone

pub returns-clause-fits : goal.returns-clause-fits
returns-clause-fits c = in_turn-is_enough
