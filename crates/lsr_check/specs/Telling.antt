-- What is told of recorded runs: what was found, and what was expected in its place.
use Rattle.std.specs.Prelude.{ℕ, List, [], ◌∷◌, ◌++◌, ◌-◌, codes}
use Rattle.std.specs.Fmt.{decimal}
use Rattle.std.specs.List.{flat_map, slice_get}
use Rattle.std.specs.Option.{option_map_or}
use Rattle.hex.specs.Hex.{encode_lower}
use Rattle.line_streams.specs.Texts.{input_fault_text}
use Rattle.lsr_facts.specs.declared.key.Key.{Key}
use Rattle.lsr_text.specs.Answers.{refusal_line, replies_text}
use Rattle.journal_bytes.specs.declared.entry.Entry.{Entry}
use Rattle.journal_bytes.specs.declared.entry.WrittenFrame.{WrittenFrame}
use Rattle.lsr_check.specs.Names.{clause_name}
use Rattle.run_checker.specs.Names.{fault_words}
use Rattle.run_checker.specs.declared.fault.EntryFault.{EntryFault}
use Rattle.run_checker.specs.declared.fault.EntryFault.TheVariants as faults
use Rattle.run_checker.specs.declared.fault.RunFault.{RunFault}
use Rattle.run_checker.specs.declared.fault.RunFault.TheVariants as runs
use Rattle.lsr_check.specs.declared.flaw.Flaw.{Flaw}
use Rattle.lsr_check.specs.declared.flaw.Flaw.TheVariants as flaws
use Rattle.lsr_check.specs.declared.flaw.Stop.{Stop}
use Rattle.lsr_check.specs.declared.flaw.Stop.TheVariants as stops
use Rattle.lsr_check.specs.declared.recorded.Recorded.{Recorded}
use Rattle.lsr_check.specs.declared.recorded.Unread.{Unread}
use Rattle.lsr_check.specs.declared.recorded.Unread.TheVariants as unreads

-- ---- what is printed

-- `run of N entries`
abbrev pub run_line : ℕ → List ℕ
run_line count = codes "run of " ++ (decimal count ++ codes " entries\n")

-- `entry 0: Gap`, or `entry NUMBER: FAULT`
abbrev pub flaw_line : Flaw → List ℕ
flaw_line flaws.Gap = codes "entry 0: Gap\n"
flaw_line (flaws.Fault fault) = fault_words fault ++ codes "\n"

-- a file that can't be read has no answer
abbrev pub unread_line : Unread → List ℕ
unread_line (unreads.Input fault) = []
unread_line unreads.Format = codes "entry 0: Format\n"
unread_line unreads.Memory = codes "entry 0: Memory\n"

abbrev pub stop_line : Stop → List ℕ
stop_line (stops.Unread unread) = unread_line unread
stop_line (stops.Flawed run flaw) = flaw_line flaw

-- ---- what is told of it

-- a label that was chosen, or may be
abbrev pub label_line : List ℕ → Key × ℕ → List ℕ
label_line word row = codes "  " ++ (word ++ (codes " label " ++ (decimal row.1 ++ codes "\n")))

-- labels: a line for each, or that there is none
abbrev pub label_lines : List ℕ → List (Key × ℕ) → List ℕ
label_lines word [] = codes "  " ++ (word ++ codes " no label\n")
label_lines word (row ∷ rows) = flat_map (label_line word) (row ∷ rows)

-- a frame: its link and its bytes
abbrev pub frame_line : List ℕ → WrittenFrame → List ℕ
frame_line word frame = codes "  " ++ (word ++ (codes " frame " ++ (decimal frame.link ++ (codes " " ++ (encode_lower frame.bytes ++ codes "\n")))))

-- frames: a line for each, or that there is none
abbrev pub frame_lines : List ℕ → List WrittenFrame → List ℕ
frame_lines word [] = codes "  " ++ (word ++ codes " no frame\n")
frame_lines word (frame ∷ frames) = flat_map (frame_line word) (frame ∷ frames)

-- what happened, by its bytes
abbrev pub event_line : Entry → List ℕ
event_line e = codes "  found event " ++ (encode_lower e.event ++ codes "\n")

-- what is wrong with the entry
abbrev pub entry_text : EntryFault → Entry → List ℕ
entry_text faults.Unread e = event_line e ++ codes "  expected the bytes of an event\n"
entry_text (faults.Event refusal) e = event_line e ++ (codes "  expected no entry: " ++ refusal_line refusal)
entry_text (faults.Choice labels) e = label_lines (codes "found") e.chosen ++ label_lines (codes "expected") labels
entry_text (faults.Reply reply) e = codes "  found " ++ (replies_text (e.reply ∷ []) ++ (codes "  expected " ++ replies_text (reply ∷ [])))
entry_text (faults.Output frames) e = frame_lines (codes "found") e.outputs ++ frame_lines (codes "expected") frames

-- what is wrong with the run
abbrev pub fault_text : RunFault → List Entry → List ℕ
fault_text runs.Memory entries = []
fault_text (runs.Base clause) entries = codes "  what the router knew before the first entry breaks the clause " ++ (clause_name clause ++ codes "\n")
fault_text (runs.Entry number fault) entries = option_map_or (entry_text fault) (slice_get entries (number - 1)) []

abbrev pub flaw_text : Flaw → Recorded → List ℕ
flaw_text flaws.Gap run = codes "  it doesn't begin where the file before it ended: one is missing, or they stand in another order: give all, by their numbers\n"
flaw_text (flaws.Fault fault) run = fault_text fault run.entries

-- the file's name
abbrev pub name_line : List ℕ → List ℕ
name_line name = codes "  in " ++ (name ++ codes "\n")

abbrev pub unread_text : List ℕ → Unread → List ℕ
unread_text name (unreads.Input fault) = input_fault_text name fault
unread_text name unreads.Format = name_line name ++ codes "  these bytes are no journal file, or one that was cut short: copy it again\n"
unread_text name unreads.Memory = name_line name

-- what is told of a file after which no further one is looked at
abbrev pub stop_text : List ℕ → Stop → List ℕ
stop_text name (stops.Unread unread) = unread_text name unread
stop_text name (stops.Flawed run flaw) = name_line name ++ flaw_text flaw run
