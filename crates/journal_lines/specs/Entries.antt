-- What is shown of the entries of a journal.
use Rattle.std.specs.Prelude.{◌≡◌, ◌⊎◌, ℕ, List, ◌++◌, codes, flat_map, if◌then◌else◌}
use Rattle.std.specs.Fmt.{decimal}
use Rattle.hex.specs.Hex.{encode_lower}
use Rattle.lsr_facts.specs.declared.key.Key.{Key}
use Rattle.lsr_facts.specs.declared.router.Router.{Router}
use Rattle.journal_bytes.specs.declared.entry.Entry.{Entry}
use Rattle.journal_bytes.specs.declared.entry.WrittenFrame.{WrittenFrame}
use Rattle.event_fields.specs.EventLaws.{UnreadFits}
use Rattle.event_fields.specs.Unread.{unread_bytes}
use Rattle.event_fields.specs.declared.unread.UnreadEvent.{UnreadEvent}
use Rattle.lsr_text.specs.Answers.{reply_line}
use Rattle.lsr_text.specs.FrameLines.{written_line}
use Rattle.lsr_text.specs.Shown.{key_text}
use Rattle.journal_lines.specs.Telling.{tells_event}
use Rattle.journal_lines.specs.Words.{event_words}

-- An event whose bytes these are: its words, in a remark with the bytes where no line tells it.
abbrev pub event_line : Router → List ℕ → UnreadEvent → List ℕ
event_line r bytes event =
    if tells_event r event then event_words r event else codes "# in bytes " ++ (encode_lower bytes ++ (codes ", nearly " ++ event_words r event))

-- bytes that are no event's: a remark with them
abbrev pub no_event_words : List ℕ → List ℕ
no_event_words bytes = codes "# in bytes " ++ (encode_lower bytes ++ codes ", no event")

-- The bytes are those of the event, its message unread.
abbrev pub SpellsFields : List ℕ → UnreadEvent → Type 0
SpellsFields bytes event = UnreadFits event × (bytes ≡ unread_bytes event)

-- Bytes are shown as the event that they spell, its message unread; bytes that spell none in a remark.
abbrev pub ShowsEvent : Router → List ℕ → List ℕ → Type 0
ShowsEvent r bytes line =
    ((event : UnreadEvent) × SpellsFields bytes event × (line ≡ event_line r bytes event))
    ⊎ (((event : UnreadEvent) → SpellsFields bytes event → ⊥) × (line ≡ no_event_words bytes))

-- what stands before the line of an event: the entry's number and its port
abbrev pub entry_words : ℕ → ℕ → List ℕ
entry_words number port = codes "entry " ++ (decimal number ++ (codes " port " ++ (decimal port ++ codes ": ")))

-- a frame that was sent
abbrev pub frame_line : WrittenFrame → List ℕ
frame_line frame = written_line frame.link frame.bytes

-- `chosen KEY label L`: the label that was chosen for a new LSP
unfoldable pub chosen_line : Key × ℕ → List ℕ
chosen_line row = codes "chosen " ++ (key_text row.0 ++ (codes " label " ++ (decimal row.1 ++ codes "\n")))

-- what was answered, what was sent, and the labels that were chosen
abbrev pub answer_lines : Entry → List ℕ
answer_lines entry = reply_line entry.reply ++ (flat_map frame_line entry.outputs ++ flat_map chosen_line entry.chosen)

-- The text shows the entry of this number: its number, its port and its event in a line, and then its answer.
abbrev pub ShowsEntry : Router → ℕ → Entry → List ℕ → Type 0
ShowsEntry r number entry text =
    (line : List ℕ) × ShowsEvent r entry.event line
    × (text ≡ entry_words number entry.port ++ (line ++ (codes "\n" ++ answer_lines entry)))
