-- What is printed stays printed as it is flushed.
use Rattle.std.proofs.Common.{[], ◌∙◌, inr, refl, sym}
use Rattle.std.proofs.KnownBytes.{Appends-nil}
use Rattle.lsr_lines.proofs.Living.{appended_kept}
use Rattle.lsr_lines.proofs.live.serve_line.Goals as goal

pub returns-in-Done : goal.returns-in-Done
returns-in-Done g c =
    let became = rw c.in-Done.is at c.in_ok-session.ensures in
    (became.0, [], appended_kept _ _ _ _ became.1 c.in_ok-flush.ensures.bytes, Appends-nil _, (refl, inr (sym c.is_remark.ensures ∙ c.if-is_remark.false, became.2)))

pub returns-in-Memory : goal.returns-in-Memory
returns-in-Memory g c =
    let became = rw c.in-Memory.is at c.in_ok-session.ensures in
    (became.0, [], appended_kept _ _ _ _ became.1 c.in_ok-flush.ensures.bytes, Appends-nil _, (sym c.is_remark.ensures ∙ c.if-is_remark.false, became.2.1, became.2.0, refl))
