use Rattle.std.proofs.Common.{◌∙◌}
use Rattle.rsvp_contents.proofs.Sizes.{shared_by}
use Rattle.rsvp_contents.proofs.flow_fitting.are_shared.Goals as goal

pub returns-in-len1-up : goal.returns-in-len1-up
returns-in-len1-up c = c.all_like.ensures ∙ shared_by c.args.descriptors.now c.first-item.result c.in-len1-up.len_at_least c.first-item.is
