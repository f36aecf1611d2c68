-- Which lines come of a stream, one after the other, and why no further one is given.
use Rattle.std.specs.Prelude.{◌≡◌, ◌≢◌, ◌≤◌, ◌<◌, ◌+◌, ◌⊎◌, ℕ, List, [], ◌∷◌, ◌++◌, Bool, true, Result, Ok, Err, length, slice_index, drop}
use Rattle.std.specs.List.{All}
use Rattle.std.specs.Io.KnownBytes.{Consumes, IsAtEnd}
use Rattle.line_streams.specs.Cuts.{lines_of}
use Rattle.line_streams.specs.Texts.{Stream}
use Rattle.line_streams.specs.declared.input.InputFault.{InputFault}
use Rattle.line_streams.specs.declared.input.InputFault.TheVariants as faults
use Rattle.line_streams.specs.declared.reader.Found.{Found}
use Rattle.line_streams.specs.declared.reader.Found.TheVariants as founds
use Rattle.line_streams.specs.declared.reader.LineReader.{LineReader}

-- no newline stands in the bytes
abbrev pub IsOneLine : List ℕ → Type 0
IsOneLine bytes = (k : ℕ) → k < length bytes → slice_index bytes k ≢ 10

-- what came to a reader and was given in no line yet
abbrev pub left_of : LineReader → List ℕ
left_of reader = drop reader.given reader.came.items

-- a line that is given has at most 16,777,216 bytes
abbrev pub IsShort : List ℕ → Type 0
IsShort line = length line ≤ 16777216

-- why bytes aren't appended to a line: it would have more than are given, or it wouldn't and there is no memory for them
abbrev pub Overfills : List ℕ → List ℕ → InputFault → Type 0
Overfills line bytes faults.TooLong = 16777216 < length (line ++ bytes)
Overfills line bytes faults.Memory = IsShort (line ++ bytes)
Overfills line bytes fault = ⊥

-- what stands in bytes before their first newline, or all of them where there is none
abbrev pub EndsIn : List ℕ → List ℕ → Type 0
EndsIn front bytes = IsOneLine front × ((bytes ≡ front) ⊎ ((after : List ℕ) × (bytes ≡ front ++ (10 ∷ after))))

-- why a line isn't appended what stands in the bytes up to the first newline
abbrev pub StopsShort : List ℕ → List ℕ → InputFault → Type 0
StopsShort line bytes fault = (front : List ℕ) × EndsIn front bytes × Overfills line front fault

-- Why no line is given of what came of a stream and is left: the stream may break, as one that is a folder; or the next line, as far as it came, has
-- more bytes than are given; or it hasn't and there is no memory for it: then that line and what came with the last read,
-- which has at most 65,536 bytes, are all that is left.
abbrev pub StopsFor : Bool → List ℕ → InputFault → Type 0
StopsFor may_break left faults.Broken = (may_break ≡ true) × IsOneLine left × IsShort left
StopsFor may_break left faults.Folder = (may_break ≡ true) × IsOneLine left × IsShort left
StopsFor may_break left faults.TooLong = (front : List ℕ) × EndsIn front left × (16777216 < length front)
StopsFor may_break left faults.Memory = ((front : List ℕ) × EndsIn front left × IsShort front) × (length left ≤ 16777216 + 65536)
StopsFor may_break left fault = ⊥

-- What a reader to which `held` is left finds in a stream, which was the old one and is the new one then: the next line, and
-- what is left after its newline; or at the end of the stream the last line, if one has begun; or neither, for this fault.
abbrev pub Finds : Stream → Stream → List ℕ → List ℕ → List ℕ → Result Found InputFault → Type 0
Finds old new held line left (Ok founds.Line) =
    (text : List ℕ) × Consumes old.bytes new.bytes text × (held ++ text ≡ line ++ (10 ∷ left)) × IsOneLine line × IsShort line × (length left ≤ 65536)
Finds old new held line left (Ok founds.LastLine) =
    (text : List ℕ) × Consumes old.bytes new.bytes text × IsAtEnd new.bytes × (held ++ text ≡ line) × IsOneLine line × IsShort line × (1 ≤ length line)
Finds old new held line left (Ok founds.End) = (text : List ℕ) × Consumes old.bytes new.bytes text × IsAtEnd new.bytes × (held ++ text ≡ [])
Finds old new held line left (Err fault) = (text : List ℕ) × Consumes old.bytes new.bytes text × StopsFor old.may_break (held ++ text) fault

-- lines, the newest first, in their order, and these after them
abbrev pub onto : List (List ℕ) → List (List ℕ) → List (List ℕ)
onto [] lines = lines
onto (line ∷ earlier) lines = onto earlier (line ∷ lines)

-- So far a stream was read, which was the first one and is the other now: these lines, the newest first, are over and were
-- given, and this is left, whatever comes after it.
pub record Reads (first now : Stream) (lines : List (List ℕ)) (left : List ℕ) : Type 0 where
  pub text : List ℕ
  pub consumed : Consumes first.bytes now.bytes text
  pub breaks : now.may_break ≡ true → first.may_break ≡ true
  pub parts : (more : List ℕ) → lines_of (text ++ more) ≡ onto lines (lines_of (left ++ more))
  pub short : All IsShort lines

-- A stream was read to its end, and these, the newest first, are all its lines.
pub record ReadsAll (first now : Stream) (lines : List (List ℕ)) : Type 0 where
  pub text : List ℕ
  pub consumed : Consumes first.bytes now.bytes text
  pub ended : IsAtEnd now.bytes
  pub parts : lines_of text ≡ onto lines []
  pub short : All IsShort lines
