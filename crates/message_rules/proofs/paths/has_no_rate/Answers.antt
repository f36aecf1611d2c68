use Rattle.std.specs.Result.{is_err}
use Rattle.std.proofs.Common.{ap, ◌∙◌}
use Rattle.rsvp_bodies.specs.TokenBuckets.{token_rate}
use Rattle.rsvp_bodies.specs.Traffic.{tspec_rate}
use Rattle.rsvp_bodies.specs.declared.traffic_fault.TrafficFault.TheVariants.{BadTspec}
use Rattle.message_rules.proofs.Choices.{missing}
use Rattle.message_rules.proofs.paths.has_no_rate.Goals as goal

pub returns : goal.returns
unfolding tspec_rate
returns c = c.is_err.ensures.value ∙ ap is_err c.rate.ensures.rate ∙ missing (token_rate 1 c.args.tspec.now) BadTspec
