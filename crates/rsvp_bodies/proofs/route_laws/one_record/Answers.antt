use Rattle.rsvp_bodies.proofs.Sequences.{SpellsEach-unique}
use Rattle.rsvp_bodies.proofs.RouteCodes.{trace_code}
use Rattle.rsvp_bodies.proofs.route_laws.one_record.Goals as goal

pub returns : goal.returns
returns c = λ bytes a b s t. SpellsEach-unique trace_code bytes a b s t
