use Rattle.std.proofs.Common.{List, subst}
use Rattle.abstract_paths.specs.declared.events.Made.{Made}
use Rattle.abstract_router.specs.Steps.{Run}
use Rattle.run_journal.specs.Entries.{AreEntriesOf}
use Rattle.run_journal.specs.Journals.{Stretch}
use Rattle.run_journal.proofs.Running.{run_of}
use Rattle.run_journal.proofs.segment.Segment.is_run.Goals as goal

pub returns-clause-steps : goal.returns-clause-steps
returns-clause-steps c =
    subst (λ (s : Stretch). (made : List Made) × AreEntriesOf made s.entries × Run s.router s.base made s.end) c.self.view_is
    (run_of c.self.inside.router c.self.inside.entries.items c.self.inside.base c.self.inside.end c.self.invariant.run)
