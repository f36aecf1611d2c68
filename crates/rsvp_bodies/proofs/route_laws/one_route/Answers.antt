use Rattle.rsvp_bodies.proofs.Sequences.{SpellsEach-unique}
use Rattle.rsvp_bodies.proofs.RouteCodes.{step_code}
use Rattle.rsvp_bodies.proofs.route_laws.one_route.Goals as goal

pub returns : goal.returns
returns c = λ bytes a b s t. SpellsEach-unique step_code bytes a b s t
