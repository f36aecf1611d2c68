use Rattle.std.proofs.Common.{arith}
use Rattle.std.proofs.lemmas.Grind.{common_steps}
use Rattle.std.proofs.lemmas.List.Elements.{filter_map-append}
use Rattle.message_rules.proofs.upstream.told_upstream.Goals as goal

pub loop-origin-preserved : goal.loop-origin-preserved
loop-origin-preserved c = grind (arith, common_steps, filter_map-append)
