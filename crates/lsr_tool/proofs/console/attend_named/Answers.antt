-- What the console answered stands after what the output held, and after it what is told of the run.
use Rattle.std.proofs.Common.{◌+◌, ℕ, List, Option, length, subst, sym}
use Rattle.std.proofs.lemmas.Result.{IfOk-weaker}
use Rattle.lsr_tool.specs.Growing.{StaysBefore}
use Rattle.lsr_tool.proofs.Told.{attends_after}
use Rattle.lsr_tool.proofs.console.attend_named.Goals as goal

pub returns-clause-status : goal.returns-clause-status
returns-clause-status g c =
    let holds = g.O.Output.holds in
    let config = c.args.config.now in
    let ports = length c.args.links.now + 2 in
    let named = c.attend_links-attended.new.output in
    let mid = holds named.output in
    let stays : StaysBefore (holds c.args.output) mid = subst (λ (held : Option (List ℕ)). StaysBefore held mid) (sym c.requires.held) named.stays in
    let told = c.tell_attended-told.ensures config ports c.attend_links-attended.ensures in
    IfOk-weaker c.tell_attended-told.result _ _ (λ status last done. attends_after config ports (holds c.args.output) mid _ stays (last done)) told
