-- What a journal keeps of a run records it.
use Rattle.std.specs.Prelude.{ℕ, List, [], ◌∷◌}
use Rattle.std.proofs.Common.{subst, sym}
use Rattle.lsr_facts.specs.declared.router.Router.{Router}
use Rattle.abstract_paths.specs.declared.events.Made.{Made}
use Rattle.abstract_router.specs.States.{State}
use Rattle.abstract_router.specs.Steps.{Run, Step}
use Rattle.journal_bytes.specs.Entries.{IsEntryOf}
use Rattle.journal_bytes.specs.Events.{IsWrittenAgain}
use Rattle.journal_bytes.specs.declared.entry.Entry.{Entry}
use Rattle.event_fields.specs.Spelled.{SpellsEvent}
use Rattle.event_fields.proofs.Fields.{written_event}
use Rattle.run_checker.specs.Recorded.{AreKept, AreRecorded, IsRecorded}

-- of one step
pub kept_step : (r : Router) (before after : State) (made : Made) (e : Entry) → Step r before made after → IsEntryOf made e → IsWrittenAgain made.event → IsRecorded r before e after
kept_step r before after made e step of again = record {
  made = made;
  step = step;
  told = record {
    happened = subst (λ (bytes : List ℕ). SpellsEvent bytes made.event) (sym of.event) (record { possible = step.possible; spelled = written_event made.event again });
    chosen = of.chosen;
    replied = of.replied;
    sent = of.sent;
  };
}

-- of all of them
pub kept_run : (r : Router) (before after : State) (made : List Made) (entries : List Entry) → Run r before made after → AreKept made entries → AreRecorded r before entries after
kept_run r before after [] [] run kept = run
kept_run r before after (made ∷ more) (e ∷ es) run kept = (run.0, kept_step r before run.0 made e run.1 kept.0 kept.1, kept_run r run.0 after more es run.2 kept.2)
kept_run r before after [] (e ∷ es) run kept = absurd kept
kept_run r before after (made ∷ more) [] run kept = absurd kept
