-- A Resv puts what its descriptors ask for, and nothing else makes a reservation.
use Rattle.label_laws.proofs.Reserved.{asked_for}
use Rattle.label_laws.proofs.held.each_reservation_was_asked_for.Goals as goal

pub returns : goal.returns
returns c = asked_for
