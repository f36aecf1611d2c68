-- Runs whose journal is kept.
use Rattle.std.proofs.Common.{◌≡◌, ◌++◌, Bool, ℕ, List, [], Option, Some, Result, Ok, OnOk, Bor, inr, refl, subst, sym, ap, ◌∙◌}
use Rattle.std.specs.Option.{option_map}
use Rattle.std.specs.Io.KnownBytes.{Appends}
use Rattle.std.proofs.lemmas.Result.{on_ok_weaker}
use Rattle.line_streams.specs.Cuts.{lines_of}
use Rattle.line_streams.specs.Texts.{Stream}
use Rattle.line_streams.specs.declared.input.InputFault.{InputFault}
use Rattle.lsr_config.specs.Configs.{Setup}
use Rattle.lsr_config.specs.Reading.{IsRead}
use Rattle.lsr_lines.specs.Runs.{Stops}
use Rattle.lsr_lines.specs.declared.run.RunStop.{RunStop}
use Rattle.lsr_lines.proofs.Serving.{stops_kept}
use Rattle.lsr_journal.specs.Recorded.{RecordedState, Records, begun, is_over}
use Rattle.lsr_journal.specs.Segments.{SpellsSegment}
use Rattle.lsr_journal.proofs.Keeping.{IsSameBase, records_kept}
use Rattle.run_journal.specs.Journals.{Journal, stretch_of}
use Rattle.lsr_runs.specs.Endings.{ending_text}
use Rattle.lsr_runs.specs.Recording.{HoldsJournal, IsRecordable, RanRecorded, RunsRecorded}
use Rattle.lsr_runs.specs.declared.written.OutputFault.{OutputFault}
use Rattle.lsr_runs.specs.declared.endings.Source.TheVariants as sources
use Rattle.lsr_runs.specs.declared.endings.RunEnding.TheVariants as endings

-- a run changes neither the router nor what its journal begins with
run_kept : (echo : Bool) (session : RecordedState) (lines : List (List ℕ)) (printed : List ℕ) (stop : RunStop) (after : RecordedState) → Stops Records is_over echo session lines printed stop after
    → IsSameBase session after
run_kept echo session lines printed stop after h =
    stops_kept (IsSameBase session) Records is_over (λ before request text next served held. let same = records_kept before request text next served in (same.0 ∙ held.0, same.1 ∙ held.1)) echo session lines printed stop after h (refl, refl)

-- so the journal begins with what the router knew as the session began
pub begun_whole : (echo : Bool) (config : Setup) (session : RecordedState) (lines : List (List ℕ)) (printed : List ℕ) (stop : RunStop) (after : RecordedState) → session ≡ begun config session.journal.table
    → Stops Records is_over echo session lines printed stop after → after.journal.base ≡ session.journal.state
begun_whole echo config session lines printed stop after begins h =
    (run_kept echo session lines printed stop after h).1 ∙ (ap (λ (s : RecordedState). s.journal.base) begins ∙ sym (ap (λ (s : RecordedState). s.journal.state) begins))

-- and its router is the configuration's
pub begun_router : (echo : Bool) (config : Setup) (session : RecordedState) (lines : List (List ℕ)) (printed : List ℕ) (stop : RunStop) (after : RecordedState) → session ≡ begun config session.journal.table
    → Stops Records is_over echo session lines printed stop after → after.journal.router ≡ config.router
begun_router echo config session lines printed stop after begins h =
    (run_kept echo session lines printed stop after h).0 ∙ ap (λ (s : RecordedState). s.journal.router) begins

-- a file that isn't opened
pub unopened_recorded : {F : Type 0} (opens : List ℕ → F → Type 0) (fails : List ℕ → InputFault → Type 0) (stream : F → Stream) (holds : List ℕ → List ℕ → Type 0) (journal : List ℕ) (echo : Bool) (file : Option (Bor (List ℕ))) (name : Bor (List ℕ))
    (input : Stream) (printed error told : Option (List ℕ)) (fault : InputFault) → file ≡ Some name → fails name.now fault → Appends error told (ending_text name.now (endings.Unread sources.Config fault))
    → RunsRecorded opens fails stream holds journal echo (option_map (λ f. f.now) file) input printed printed error told 1
unopened_recorded opens fails stream holds journal echo file name input printed error told fault e h t =
    subst (λ (f : Option (Bor (List ℕ))). RunsRecorded opens fails stream holds journal echo (option_map (λ g. g.now) f) input printed printed error told 1) (sym e) (inr (fault, h, refl, refl, t))

-- A file whose bytes were written to an empty vector for what the session recorded.
pub holds_written : (holds : List ℕ → List ℕ → Type 0) (name text : List ℕ) (journal : Journal) (before after written : List ℕ) → before ≡ []
    → ((bytes : List ℕ) × (after ≡ before ++ bytes) × ((config : Setup) → IsRead text (Ok config) → journal.router ≡ config.router → SpellsSegment bytes text config (stretch_of journal))) → written ≡ after → holds name written
    → (config : Setup) → IsRead text (Ok config) → journal.router ≡ config.router → HoldsJournal holds name text config (stretch_of journal)
holds_written holds name text journal before after written empty spells same held config read router =
    let bytes = same ∙ spells.1 ∙ ap (λ (b : List ℕ). b ++ spells.0) empty in
    (spells.0, spells.2 config read router, subst (λ (b : List ℕ). holds name b) bytes held)

-- A session that began served the lines, and what it recorded was written.
pub ran_recorded : (holds : List ℕ → List ℕ → Type 0) (journal : List ℕ) (echo : Bool) (stream : Option Stream) (input : Stream) (printed : List ℕ) (stop : RunStop) (kept : Result (Unit {0}) OutputFault) (session after : RecordedState) (configured text : List ℕ)
    → IsRecordable stream input session configured text → Stops Records is_over echo session (lines_of text) printed stop after
    → OnOk kept ((config : Setup) → IsRead configured (Ok config) → after.journal.router ≡ config.router → HoldsJournal holds journal configured config (stretch_of after.journal)) → RanRecorded holds journal echo stream input printed stop kept
ran_recorded holds journal echo stream input printed stop kept session after configured text ready served written =
    record {
      session = session;
      after = after;
      configured = configured;
      text = text;
      ready = ready;
      stops = served;
      whole = begun_whole echo ready.config session (lines_of text) printed stop after ready.begins served;
      file = on_ok_weaker kept (λ holding. holding ready.config ready.says (begun_router echo ready.config session (lines_of text) printed stop after ready.begins served)) written;
    }
