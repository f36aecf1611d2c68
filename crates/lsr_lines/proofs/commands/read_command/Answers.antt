-- Where there is no memory for a tunnel or a change, the line brings one.
use Rattle.std.proofs.Common.{◌≡◌, codes, inl, inr, rules, subst, sym}
use Rattle.std.proofs.lemmas.Result.{on_err_weaker}
use Rattle.lsr_lines.specs.Commands.{BeginsWith, SaysChange, SaysTunnel}
use Rattle.lsr_lines.proofs.commands.read_command.Goals as goal

pub returns-then-eq-clause-memory : goal.returns-then-eq-clause-memory
returns-then-eq-clause-memory c =
    let first : c.in-Some.word.now ≡ codes "tunnel" = search rules in
    on_err_weaker c.add_tunnel.result
    (λ says. inl (says.0, subst (BeginsWith (codes "tunnel") (λ others. SaysTunnel others says.0)) (sym c.in-Some.ensures) (first, says.1)))
    c.add_tunnel.ensures.memory

pub returns-then-eq-2-clause-memory : goal.returns-then-eq-2-clause-memory
returns-then-eq-2-clause-memory c =
    let first : c.in-Some.word.now ≡ codes "change" = search rules in
    on_err_weaker c.change_tunnel.result
    (λ says. inr (says.0, subst (BeginsWith (codes "change") (λ others. SaysChange others says.0)) (sym c.in-Some.ensures) (first, says.1)))
    c.change_tunnel.ensures.memory
