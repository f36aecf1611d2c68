-- The file that is written of a stretch spells its recording.
use Rattle.std.proofs.Common.{◌≡◌, ◌++◌, ℕ, List, Result, Ok, Err, OnOk, map, sym, subst, ap₂, ◌∙◌}
use Rattle.std.specs.Str.{IsUtf8}
use Rattle.abstract_paths.specs.Soundness.{IsStanding}
use Rattle.journal_files.specs.Fitting.{FormatFits}
use Rattle.journal_files.specs.Formats.{Stored, format_bytes}
use Rattle.journal_files.specs.Pending.{ArePendingTold, untold_state}
use Rattle.journal_files.specs.Recordings.{IsRecording, SpellsFile, file_bytes, stored}
use Rattle.journal_files.specs.declared.formats.FileFormat.{FileFormat}
use Rattle.journal_files.specs.declared.formats.FileFormat.TheVariants as formats
use Rattle.journal_files.specs.declared.recordings.Recording.{Recording}
use Rattle.lsr_config.specs.Configs.{Setup}
use Rattle.lsr_config.specs.Reading.{IsRead}
use Rattle.lsr_facts.specs.declared.router.Router.{Router}
use Rattle.lsr_facts.specs.declared.state.State.{State}
use Rattle.run_journal.specs.Journals.{IsSegment, Stretch}
use Rattle.run_journal.specs.declared.entry.CountedEntry.{CountedEntry}
use Rattle.lsr_journal.specs.Segments.{SpellsSegment, recording_of}

-- the two laws of files
abbrev pub FilesSpell : Type 0
FilesSpell = (format : FileFormat) (r : Recording) → IsRecording format r → FormatFits format (stored r) → SpellsFile (file_bytes format (format_bytes format (stored r))) r

abbrev pub StandingAreTold : Type 0
StandingAreTold = (r : Router) (s : State) → IsStanding r s.facts → ArePendingTold r s

pub segment_spelled : FilesSpell → StandingAreTold → (text : List ℕ) (config : Setup) (s : Stretch) → IsUtf8 text → IsRead text (Ok config) → s.router ≡ config.router → IsSegment s
    → FormatFits formats.Third (stored (recording_of text config s)) → SpellsSegment (file_bytes formats.Third (format_bytes formats.Third (stored (recording_of text config s)))) text config s
segment_spelled spell told text config s utf8 read same segment fits =
    spell formats.Third (recording_of text config s) (record {
      says = record { utf8 = utf8; read = read; allowed = tt };
      pending = told config.router s.base (subst (λ (r : Router). IsStanding r s.base.facts) same segment.sound_base.paths);
    }) fits

-- what a file has of a stretch that begins with this, and has these entries
abbrev pub kept_of : List ℕ → State → List CountedEntry → Stored
kept_of text base entries = (text, (untold_state base, map (λ e. e.entry) entries))

-- what was written of it spells it
pub stretch_written : {E : Type 0} → FilesSpell → StandingAreTold → (text : List ℕ) (base : State) (entries : List CountedEntry) → IsUtf8 text → (given : Stored) → given ≡ kept_of text base entries → (old new : List ℕ) (r : Result (Unit {0}) E)
    → OnOk r (new ≡ old ++ file_bytes formats.Third (format_bytes formats.Third given)) → OnOk r (FormatFits formats.Third given)
    → OnOk r ((bytes : List ℕ) × (new ≡ old ++ bytes) × ((config : Setup) (s : Stretch) → IsRead text (Ok config) → s.router ≡ config.router → IsSegment s → s.base ≡ base → s.entries ≡ entries → SpellsSegment bytes text config s))
stretch_written spell told text base entries utf8 given same old new (Err e) ok fits = tt
stretch_written spell told text base entries utf8 given same old new (Ok done) ok fits = (
  file_bytes formats.Third (format_bytes formats.Third given),
  ok,
  λ config s read router segment base_is entries_are.
      let kept : given ≡ kept_of text s.base s.entries = same ∙ ap₂ (kept_of text) (sym base_is) (sym entries_are) in
      subst (λ (k : Stored). SpellsSegment (file_bytes formats.Third (format_bytes formats.Third k)) text config s) (sym kept)
      (segment_spelled spell told text config s utf8 read router segment (subst (λ (k : Stored). FormatFits formats.Third k) kept fits)),
)
