-- The two laws are lemmas.
use Rattle.rsvp_bodies.proofs.RateMeaning.{rates_are_rounded_up, refusals_are_fair}
use Rattle.rsvp_bodies.proofs.rate_laws.rates_mean_their_words.Goals as goal

pub returns-clause-rounded : goal.returns-clause-rounded
returns-clause-rounded c = rates_are_rounded_up

pub returns-clause-refused : goal.returns-clause-refused
returns-clause-refused c = refusals_are_fair
