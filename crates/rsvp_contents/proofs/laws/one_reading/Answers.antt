-- The objects behind a header are cut in one way.
use Rattle.rsvp_contents.proofs.Readings.{one_reading_lem, one_fault_lem, no_fault_lem}
use Rattle.rsvp_contents.proofs.laws.one_reading.Goals as goal

pub returns-clause-reading : goal.returns-clause-reading
returns-clause-reading c = one_reading_lem

pub returns-clause-fault : goal.returns-clause-fault
returns-clause-fault c = one_fault_lem

pub returns-clause-not_both : goal.returns-clause-not_both
returns-clause-not_both c = no_fault_lem
