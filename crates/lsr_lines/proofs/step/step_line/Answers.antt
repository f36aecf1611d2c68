-- What becomes of the line for who answers every request.
use Rattle.std.specs.Option.{MatchOption}
use Rattle.lsr_lines.proofs.Serving.{becomes_in}
use Rattle.lsr_lines.proofs.step.step_line.Goals as goal

pub returns : goal.returns
returns g c =
    let became = c.in_ok-after.ensures in (
      became.0,
      became.1,
      becomes_in (λ s. s.session) (λ before request text after. MatchOption text ⊥ (λ t. g.A.Answers.answers before.session request t after.session)) g.A.Answers.answers (λ before request text after answered. answered) (λ before request after unserved. unserved) c.args.echo (record { session = c.args.session }) c.args.line.now became.0 c.in_ok-after.served c.in_ok-after.after became.2,
    )
