-- The form is still among the lines that are left.
use Rattle.std.proofs.Common.{length}
use Rattle.lsr_lines.proofs.FormLaws.{IsLeft}
use Rattle.lsr_lines.proofs.forms.form_for.Given as goal

abbrev pub invariant-loop-form : goal.invariant-loop-form
invariant-loop-form l = IsLeft l.forms l.other l.word l.rest

abbrev pub decreases-loop-form : goal.decreases-loop-form
decreases-loop-form l = length l.rest
