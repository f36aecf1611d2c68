use Rattle.rsvp_bodies.proofs.Codes.{one_end}
use Rattle.rsvp_bodies.proofs.route_laws.one_subobject.Goals as goal

pub returns : goal.returns
returns c = λ a b rest others e s t. one_end a rest b others e s t
