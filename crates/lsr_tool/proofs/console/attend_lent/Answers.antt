-- The output that is given back is the one that was lent.
use Rattle.std.proofs.Common.{◌+◌, ap, length, rules}
use Rattle.lsr_tool.proofs.Told.{attends_so}
use Rattle.lsr_tool.proofs.console.attend_lent.Goals as goal

pub returns : goal.returns
returns g c =
    let contents = g.W.Write.contents in
    let told = c.attend_named-told in
    attends_so told.result.0 c.args.config.now (length c.args.links.now + 2) (contents c.args.output.now) (contents told.result.1.output.now) _ (ap contents (search rules)) told.ensures.status
