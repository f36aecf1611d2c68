-- Words that bring a command bring it to the router of the name before them.
use Rattle.std.proofs.Common.{◌≤◌, ◌∷◌, rules, length, refl, subst, sym}
use Rattle.world_lines.specs.Lines.{SaysAt}
use Rattle.world_lines.specs.declared.lines.Act.TheVariants as acts
use Rattle.world_lines.proofs.LineLaws.{for_error}
use Rattle.world_lines.proofs.lines.read_at.Goals as goal

pub returns-in_err-act-clause-memory : goal.returns-in_err-act-clause-memory
returns-in_err-act-clause-memory c =
    let brings = c.in_err-act.ensures.memory in
    let name = c.in-Some.name.now in
    let some : 1 ≤ length name = search rules in
    for_error c.from_residual.result (name, brings.0, subst (λ words. SaysAt (c.args.word.now ∷ words) name (acts.Command brings.0)) (sym c.in-Some.ensures) ((refl, some), brings.1))
