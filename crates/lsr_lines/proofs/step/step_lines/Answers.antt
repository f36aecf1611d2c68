-- How the run ends for who answers every request.
use Rattle.std.proofs.Common.{false, rules}
use Rattle.std.specs.Option.{MatchOption}
use Rattle.line_streams.specs.Cuts.{lines_of}
use Rattle.lsr_lines.proofs.Serving.{ends_in}
use Rattle.lsr_lines.proofs.step.step_lines.Goals as goal

pub returns : goal.returns
returns g c =
    let ran = rw c.in-Lines.is at c.in_ok-_after.ensures in (
      ran.0,
      ran.1,
      ends_in (λ s. s.session) (λ before request text after. MatchOption text ⊥ (λ t. g.A.Answers.answers before.session request t after.session)) (λ _. false) g.A.Answers.answers (λ before request text after answered. answered) (λ before request after unserved. unserved) c.args.echo (record { session = c.args.session }) (lines_of c.args.text.now) ran.0 c.in-Lines.ending c.in_ok-_after._after ran.2,
    )
