-- What a journal records of a run records it for whoever checks it.
use Rattle.std.proofs.Common.{◌≡◌, ◌∷◌, ℕ, List, [], map, subst}
use Rattle.abstract_router.specs.States.{State}
use Rattle.journal_files.specs.Recordings.{SpellsFile}
use Rattle.journal_files.specs.declared.recordings.Recording.{Recording}
use Rattle.lsr_config.specs.Configs.{Setup}
use Rattle.lsr_facts.specs.declared.router.Router.{Router}
use Rattle.run_checker.specs.Faulty.{IsFaultless}
use Rattle.run_checker.specs.Recorded as checked
use Rattle.run_checker.proofs.Keeping.{kept_step}
use Rattle.run_checker.proofs.Refusing.{run_faultless}
use Rattle.run_journal.specs.Entries.{AreRecorded}
use Rattle.run_journal.specs.Journals.{IsSegment, Stretch}
use Rattle.run_journal.specs.declared.entry.CountedEntry.{CountedEntry}
use Rattle.lsr_journal.specs.Segments.{SpellsSegment, entries_of, recording_of}

recorded_as : (r : Router) (es : List CountedEntry) (before after : State) → AreRecorded r before es after → checked.AreRecorded r before (map (λ (e : CountedEntry). e.entry) es) after
recorded_as r [] before after is = is
recorded_as r (e ∷ es) before after is =
    (is.0, kept_step r before is.0 is.1.made e.entry is.1.step is.1.entry is.1.again, recorded_as r es is.0 after is.2)

-- So a segment is a run,
pub segment_recorded : (s : Stretch) → IsSegment s → checked.AreRecorded s.router s.base (entries_of s) s.end
segment_recorded s is = recorded_as s.router s.entries s.base s.end is.run

-- with which nothing is wrong,
pub segment_faultless : (s : Stretch) → IsSegment s → IsFaultless s.router s.base (entries_of s)
segment_faultless s is = run_faultless s.router s.base s.end (entries_of s) is.sound_base (segment_recorded s is)

-- nor with what is read of its file.
pub file_faultless : ((bytes : List ℕ) (a b : Recording) → SpellsFile bytes a → SpellsFile bytes b → a ≡ b) → (bytes text : List ℕ) (config : Setup) (s : Stretch) (read : Recording)
    → IsSegment s → s.router ≡ config.router → SpellsSegment bytes text config s → SpellsFile bytes read → IsFaultless read.config.router read.base read.entries
file_faultless one bytes text config s read is same spelled reads =
    let P : Recording → Type 0 = λ r. IsFaultless r.config.router r.base r.entries in
    subst P (one bytes (recording_of text config s) read spelled reads) (subst (λ (r : Router). IsFaultless r s.base (entries_of s)) same (segment_faultless s is))
