-- As many wires are open as there are links.
use Rattle.std.proofs.Common.{◌≡◌, ◌+◌, length, rules, subst}
use Rattle.std.proofs.lemmas.Result.{IfOk-weaker}
use Rattle.lsr_tool.specs.Attended.{IsAttended}
use Rattle.lsr_tool.proofs.console.attend_links.Goals as goal

pub returns : goal.returns
returns g c =
    let config = c.args.config.now in
    let opened = c.in-Ok.opened in
    let links : length opened.links.items ≡ length c.args.links.now = search rules in
    IfOk-weaker _ (IsAttended config (length opened.links.items + 2)) _ (λ attended is. subst (λ n. IsAttended config (n + 2) attended) links is) (search rules)
