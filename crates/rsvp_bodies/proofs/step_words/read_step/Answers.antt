use Rattle.std.proofs.Common.{Some, None, lit<}
use Rattle.std.proofs.lemmas.Str.Pattern.{strip_prefix_char}
use Rattle.rsvp_bodies.proofs.Texts.{no_loose_step, no_strict_step}
use Rattle.rsvp_bodies.proofs.step_words.read_step.Goals.{in-Some, in-None}
use Rattle.rsvp_bodies.proofs.step_words.read_step.Goals as goal

pub returns-in_err-prefix : goal.returns-in_err-prefix
returns-in_err-prefix c = elim c.match-strip_prefix.branch [
  | in-Some w ↦ rw c.from_residual.ensures (no_loose_step c.args.text.now w.in-Some.written.now (strip_prefix_char 126 c.args.text.now (Some w.in-Some.written) w.in-Some.ensures.cases (lit< tt)) (rw w.loose-is at c.in_err-prefix.ensures))
  | in-None w ↦ rw c.from_residual.ensures (no_strict_step c.args.text.now (strip_prefix_char 126 c.args.text.now None w.in-None.ensures.cases (lit< tt)) (rw w.loose-is at c.in_err-prefix.ensures))
]
