-- The session that begins serves the lines; or none begins.
use Rattle.std.proofs.Common.{ap, inl, inr, refl, subst, ◌∙◌}
use Rattle.std.proofs.KnownBytes.{Appends-trans}
use Rattle.std.specs.Io.KnownBytes.{Appends}
use Rattle.lsr_runs.specs.Endings.{ending_text}
use Rattle.lsr_runs.specs.Live.{live_status}
use Rattle.lsr_runs.proofs.live.run_live.Goals as goal

pub returns-in_ok-status-in-Ok : goal.returns-in_ok-status-in-Ok
returns-in_ok-status-in-Ok g c =
    let began = c.in-Ok.ensures.begun in
    let lives = c.in_ok-ending-in-Ok.ensures in
    inl (
      c.in_ok-ending-in-Ok.ending,
      c.in_ok-ending-in-Ok.bad,
      lives.0,
      lives.1,
      record { configured = began.0; setup = began.1; session = c.in-Ok.session; config_read = began.2; says = began.3; begins = began.4; lives = lives.5 },
      lives.4,
      c.in_ok-status-in-Ok.ensures.status ∙ ap (live_status c.in_ok-ending-in-Ok.bad) c.ending_of.ensures,
      lives.2,
      Appends-trans _ _ _ _ _ lives.3 (subst (λ ending. Appends (g.E.Write.contents c.serve_lines.new.error) (g.E.Write.contents c.end_live.new.error) (ending_text c.args.name.now ending)) c.ending_of.ensures c.in_ok-status-in-Ok.ensures.told),
    )

pub returns-in_ok-status-in-Err : goal.returns-in_ok-status-in-Err
returns-in_ok-status-in-Err g c = inr (c.in-Err.ending, c.in-Err.ensures.fault, refl, c.in_ok-status-in-Err.ensures.status, refl, c.in_ok-status-in-Err.ensures.told)
