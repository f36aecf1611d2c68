-- The segment is the stretch whose file is written.
use Rattle.std.proofs.Common.{sym}
use Rattle.std.proofs.lemmas.Result.{on_ok_weaker}
use Rattle.lsr_journal.proofs.segments.write_segment.Goals as goal

pub returns-clause-ok : goal.returns-clause-ok
returns-clause-ok c =
    on_ok_weaker c.write_stretch.result
    (λ w. (w.0, w.1, λ config read router. w.2 config c.args.segment.now read router c.is_run.ensures.segment (sym c.base.ensures) (sym c.entries.ensures)))
    c.write_stretch.ensures.ok
