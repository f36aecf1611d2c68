-- At the end of the text no file is named.
use Rattle.std.proofs.Common.{ap, ◌∙◌}
use Rattle.line_streams.proofs.CutLaws.{lines_of-nil}
use Rattle.line_streams.specs.Cuts.{lines_of}
use Rattle.lsr_lines.proofs.Stepping.{none_by}
use Rattle.world_lines.specs.Named.{files_of}
use Rattle.world_lines.proofs.named.next_file.Goals as goal

pub returns-clause-files : goal.returns-clause-files
returns-clause-files c =
    c.loop-line.invariant.same ∙ ap (λ rest. files_of (lines_of rest)) (c.next_line.ensures.end.0 (none_by c.next_line.result c.in_default.not-Some)) ∙ ap files_of lines_of-nil
