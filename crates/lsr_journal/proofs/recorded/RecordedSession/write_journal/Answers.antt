-- The entries are a segment as they stand, and their file is written.
use Rattle.std.proofs.Common.{◌≡◌, ap, subst, sym, ◌∙◌}
use Rattle.std.proofs.lemmas.Result.{on_ok_weaker}
use Rattle.run_journal.specs.Journals.{IsSegment, Journal, stretch_of}
use Rattle.lsr_journal.specs.Recorded.{RecordedState}
use Rattle.lsr_journal.proofs.recorded.RecordedSession.write_journal.Goals as goal

pub returns-clause-ok : goal.returns-clause-ok
returns-clause-ok g c =
    let same : c.self.inside.locked.value ≡ c.args.self.now.journal = ap (λ (s : RecordedState). s.journal) c.self.view_is in
    let segment : IsSegment (stretch_of c.args.self.now.journal) = subst (λ (j : Journal). IsSegment (stretch_of j)) (c.deref.ensures ∙ same) c.is_segment.ensures in
    let base = c.base.ensures ∙ ap (λ (j : Journal). j.base) (c.deref-2.ensures ∙ same) in
    let entries = c.entries.ensures ∙ ap (λ (j : Journal). j.entries) (c.deref-3.ensures ∙ same) in
    on_ok_weaker c.write_stretch.result
    (λ w. (w.0, w.1, λ config read router. w.2 config (stretch_of c.args.self.now.journal) read router segment (sym base) (sym entries)))
    c.write_stretch.ensures.ok
