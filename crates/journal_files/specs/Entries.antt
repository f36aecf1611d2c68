-- The parts of entries, and of frames that left.
use Rattle.std.specs.Prelude.{◌++◌, ◌∷◌, ℕ, List, refl}
use Rattle.byteorder.specs.Endian.{big_bytes}
use Rattle.field_bytes.specs.Making.{IsToldApart, told_by}
use Rattle.field_bytes.specs.Spelling.{list_bytes}
use Rattle.lsr_facts.specs.declared.key.Key.{Key}
use Rattle.lsr_facts.specs.declared.reply.Reply.{Reply}
use Rattle.journal_bytes.specs.Events.{counted_bytes}
use Rattle.journal_bytes.specs.declared.entry.Entry.{Entry}
use Rattle.journal_bytes.specs.declared.entry.WrittenFrame.{WrittenFrame}
use Rattle.fact_fields.specs.Keys.{key_bytes}
use Rattle.journal_files.specs.Replies.{reply_bytes}

-- A frame that left: its link and its bytes.
abbrev pub frame_bytes : WrittenFrame → List ℕ
frame_bytes f = big_bytes 2 f.link ++ counted_bytes f.bytes

abbrev pub frame_parts : WrittenFrame → ℕ × List ℕ
frame_parts f = (f.link, f.bytes)

-- the frame of these
abbrev pub frame_of : ℕ × List ℕ → WrittenFrame
frame_of parts = record { link = parts.0; bytes = parts.1 }

pub frame_told : IsToldApart (λ (f : WrittenFrame). Unit {0}) frame_parts
frame_told = told_by (λ (f : WrittenFrame). Unit {0}) frame_parts frame_of (λ f. refl)

-- the label of an LSP
abbrev pub label_bytes : Key × ℕ → List ℕ
label_bytes row = key_bytes row.0 ++ big_bytes 4 row.1

-- What became of an event: the labels that were chosen, what was answered and what was sent.
abbrev pub outcome_bytes : Entry → List ℕ
outcome_bytes e = list_bytes label_bytes e.chosen ++ (reply_bytes e.reply ++ list_bytes frame_bytes e.outputs)

-- An entry: its port, its event as it is written, and what became of it.
abbrev pub entry_bytes : (List ℕ → List ℕ) → Entry → List ℕ
entry_bytes event_bytes e = big_bytes 2 e.port ++ (event_bytes e.event ++ outcome_bytes e)

abbrev pub OutcomeOf : Type 0
OutcomeOf = List (Key × ℕ) × (Reply × List WrittenFrame)

abbrev pub outcome_parts : Entry → OutcomeOf
outcome_parts e = (e.chosen, (e.reply, e.outputs))

abbrev pub EntryOf : Type 0
EntryOf = ℕ × (List ℕ × OutcomeOf)

abbrev pub entry_parts : Entry → EntryOf
entry_parts e = (e.port, (e.event, outcome_parts e))

-- the entry of these
abbrev pub entry_of : EntryOf → Entry
entry_of parts = record { port = parts.0; event = parts.1.0; chosen = parts.1.1.0; reply = parts.1.1.1.0; outputs = parts.1.1.1.1 }

pub entry_told : IsToldApart (λ (e : Entry). Unit {0}) entry_parts
entry_told = told_by (λ (e : Entry). Unit {0}) entry_parts entry_of (λ e. refl)
