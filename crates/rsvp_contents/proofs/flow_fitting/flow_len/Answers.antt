use Rattle.std.proofs.Common.{arith}
use Rattle.std.specs.Option.{option_map}
use Rattle.rsvp_contents.proofs.Sizes.{flow_parts}
use Rattle.rsvp_contents.proofs.flow_fitting.flow_len.Goals as goal

pub returns-clause-len : goal.returns-clause-len
returns-clause-len c =
    omega (arith, flow_parts (option_map (λ f. f.now) c.args.before) c.args.descriptor.now, c.flowspec_len.ensures.len, c.filter_len.ensures.len, c.record_len.ensures.len)
