-- Why values that compare as equal are the same.
use Rattle.rsvp_bodies.specs.PrefixLaws as prefixes
use Rattle.rsvp_bodies.specs.StepLaws as steps
use Rattle.rsvp_bodies.specs.TraceLaws as traces
use Rattle.rsvp_bodies.proofs.route_laws.equal_is_same.Goals as goal

pub returns : goal.returns
returns c = record {
  prefix = prefixes.equal_is_same_lem;
  step = steps.equal_is_same_lem;
  trace = traces.equal_is_same_lem;
}
