-- A step that is made is recorded by its entry.
use Rattle.std.proofs.Common.{◌≡◌, refl, sym, ap, subst}
use Rattle.abstract_paths.specs.declared.events.Event.{Event}
use Rattle.abstract_router.specs.States.{State}
use Rattle.abstract_router.specs.Steps.{Step}
use Rattle.abstract_router.specs.Tables.{TellsChange}
use Rattle.journal_bytes.specs.Events.{IsWrittenAgain}
use Rattle.router_core.specs.Readies.{IsReady, after_ready, made_of}
use Rattle.router_core.specs.States.{RouterState}
use Rattle.router_core.specs.declared.ready.Ready.{Ready}
use Rattle.router_core.specs.declared.ready.Ready.TheVariants as readies
use Rattle.run_journal.specs.Entries.{Recorded}
use Rattle.run_journal.specs.Journals.{IsEntryFor}
use Rattle.run_journal.specs.declared.entry.CountedEntry.{CountedEntry}

-- it is a step of the event
pub made-event : (event : Event) (ready : Ready) → (made_of event ready).event ≡ event
made-event event (readies.Plan plan) = refl
made-event event readies.Start = refl
made-event event (readies.Restart changes) = refl

pub recorded_made : (s t : RouterState) (event : Event) (ready : Ready) (e : CountedEntry) → IsReady s event ready → IsEntryFor e.entry.port event ready e
    → t ≡ record s { state = after_ready ready s.state } → Step s.router s.state (made_of event ready) t.state → (is : Recorded s.router s.state e t.state) × (is.made.event ≡ event)
recorded_made s t event ready e is its after step = (
  record {
    made = made_of event ready;
    step = step;
    entry = its.entry;
    again = subst IsWrittenAgain (sym (made-event event ready)) its.again;
    told = subst (λ (x : State). TellsChange e.changes_table s.router s.state x) (sym (ap (λ (x : RouterState). x.state) after)) (its.told s is);
  },
  made-event event ready,
)
