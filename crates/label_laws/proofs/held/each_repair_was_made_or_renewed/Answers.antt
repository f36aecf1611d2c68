-- A Routed Resv renews, what a lost link takes away is repaired, and nothing else makes a repair.
use Rattle.label_laws.proofs.Repaired.{made_or_renewed}
use Rattle.label_laws.proofs.held.each_repair_was_made_or_renewed.Goals as goal

pub returns : goal.returns
returns c = made_or_renewed
