-- What `decode -` prints for a capture: a message in each line, and an answer to each.
use Rattle.std.specs.Prelude.{◌≡◌, ◌≢◌, ◌≤◌, ◌+◌, ◌^◌, ◌||◌, ◌⊎◌, ℕ, List, [], ◌∷◌, ◌++◌, Option, length, codes, Bool, true, false, string_bytes}
use Rattle.std.specs.Fmt.{decimal}
use Rattle.std.specs.Io.KnownBytes.{Appends}
use Rattle.lsr_facts.specs.declared.refusal.Refusal.TheVariants.{Unread}
use Rattle.lsr_text.specs.Answers.{refusal_line}
use Rattle.line_streams.specs.Streams.{Reads, ReadsAll, StopsFor}
use Rattle.line_streams.specs.Texts.{Stream, input_fault_text}
use Rattle.line_streams.specs.declared.input.InputFault.{InputFault}
use Rattle.line_streams.specs.declared.input.InputFault.TheVariants as faults
use Rattle.lsr_decode.specs.Decoding.{Decodes, decoded_status, shown_text, told_text}
use Rattle.lsr_decode.specs.declared.decoding.Decoded.{Decoded}
use Rattle.lsr_decode.specs.declared.decoding.Decoded.TheVariants as answers
use Rattle.lsr_decode.specs.declared.capture.Ending.{Ending}
use Rattle.lsr_decode.specs.declared.capture.Ending.TheVariants as endings

-- the answer to the line of this number, and an empty line after it
abbrev pub answer_text : ℕ → Decoded → List ℕ
answer_text number (answers.Shown text) = string_bytes text ++ codes "\n"
answer_text number (answers.Refused fault) = codes "line " ++ (decimal number ++ (codes ": " ++ (refusal_line (Unread fault) ++ codes "\n")))
answer_text number answers.NoDigits = codes "line " ++ (decimal number ++ codes ": not hexadecimal digits\n\n")
answer_text number answers.OddDigits = codes "line " ++ (decimal number ++ codes ": an odd number of hexadecimal digits\n\n")
answer_text number answers.Memory = codes "line " ++ (decimal number ++ codes ": refused 40 NoMemory\n\n")

-- all answers but a message's lines are refusals
abbrev pub is_refused : Decoded → Bool
is_refused (answers.Shown text) = false
is_refused (answers.Refused fault) = true
is_refused answers.NoDigits = true
is_refused answers.OddDigits = true
is_refused answers.Memory = true

-- These lines, the newest first, were answered in their order, and so much was printed; whether any was refused.
abbrev pub Answered : Bool → List (List ℕ) → List ℕ → Bool → Type 0
Answered fields [] printed refused = (printed ≡ []) × (refused ≡ false)
Answered fields (line ∷ earlier) printed refused =
    (before : List ℕ) × (was : Bool) × (decoded : Decoded) × Answered fields earlier before was × Decodes fields line decoded
    × (printed ≡ before ++ answer_text (length earlier + 1) decoded) × (refused ≡ (was || is_refused decoded))

-- Lines of a stream, which was the first one and is the other now, were answered, this is left, and no further line is given,
-- for this fault.
pub record StopsAt (fault : InputFault) (fields : Bool) (first now : Stream) (printed : List ℕ) : Type 0 where
  pub lines : List (List ℕ)
  pub left : List ℕ
  pub refused : Bool
  pub reads : Reads first now lines left
  pub stops : StopsFor first.may_break left fault
  pub answered : Answered fields lines printed refused

-- As many lines were answered as 64 bits count.
pub record StopsAtCount (fields : Bool) (first now : Stream) (printed : List ℕ) : Type 0 where
  pub lines : List (List ℕ)
  pub left : List ℕ
  pub refused : Bool
  pub reads : Reads first now lines left
  pub many : 2 ^ 64 ≤ length lines + 1
  pub answered : Answered fields lines printed refused

-- how a run ends that is given no further line
abbrev pub ending_of : InputFault → Ending
ending_of faults.Absent = endings.Unreadable
ending_of faults.Unopened = endings.Unreadable
ending_of faults.Folder = endings.Folder
ending_of faults.Broken = endings.Unreadable
ending_of faults.TooLong = endings.Unreadable
ending_of (faults.NotText at) = endings.Unreadable
ending_of (faults.NotTextLine line at) = endings.Unreadable
ending_of faults.Memory = endings.Memory

-- What is printed for a stream, which was the first one and is the other now: the answers to all its lines; or to the first
-- ones, where the stream broke, is a folder, the next line is too long, no more can be counted, or memory ran out for the next.
abbrev pub DecodesLines : Bool → Stream → Stream → List ℕ → Ending → Type 0
DecodesLines fields first now printed (endings.Done refused) = (lines : List (List ℕ)) × ReadsAll first now lines × Answered fields lines printed refused
DecodesLines fields first now printed endings.Unreadable =
    StopsAt faults.Broken fields first now printed ⊎ (StopsAt faults.TooLong fields first now printed ⊎ StopsAtCount fields first now printed)
DecodesLines fields first now printed endings.Folder = StopsAt faults.Folder fields first now printed
DecodesLines fields first now printed endings.Memory = StopsAt faults.Memory fields first now printed

-- what is told on the error stream
abbrev pub ending_text : Ending → List ℕ
ending_text (endings.Done refused) = []
ending_text endings.Unreadable = codes "unreadable\n  standard input broke, or its next line has more than 16777216 bytes: look at where it comes from\n"
ending_text endings.Folder = input_fault_text (codes "standard input") faults.Folder
ending_text endings.Memory = codes "memory\n"

-- the status: 1 where a line was refused, or the run ended before the last line
abbrev pub ending_status : Ending → ℕ
ending_status (endings.Done false) = 0
ending_status (endings.Done true) = 1
ending_status endings.Unreadable = 1
ending_status endings.Folder = 1
ending_status endings.Memory = 1

-- What becomes of a word: `-` stands for the lines of the input, each of which is answered; any other word is decoded, and
-- the input isn't read.
abbrev pub DecodesWord : Bool → List ℕ → Stream → Stream → Option (List ℕ) → Option (List ℕ) → Option (List ℕ) → Option (List ℕ) → ℕ → Type 0
DecodesWord fields word input left output printed error told status =
    ((word ≡ codes "-") × ((ending : Ending) × (text : List ℕ) × (status ≡ ending_status ending) × DecodesLines fields input left text ending
    × Appends output printed text × Appends error told (ending_text ending)))
    ⊎ ((word ≢ codes "-") × ((decoded : Decoded) × Decodes fields word decoded × (status ≡ decoded_status decoded) × (left ≡ input)
    × Appends output printed (shown_text decoded) × Appends error told (told_text decoded)))
