-- What is handed over to a console of an input.
use Rattle.std.specs.Prelude.{◌≡◌, ℕ, List, Bool, false, true, Result, Ok, Err, string_bytes}
use Rattle.line_streams.specs.Streams.{Finds}
use Rattle.line_streams.specs.Texts.{IsTextUpTo, Stream}
use Rattle.line_streams.specs.declared.input.InputFault.{InputFault}
use Rattle.line_streams.specs.declared.reader.Found.{Found}
use Rattle.line_streams.specs.declared.reader.Found.TheVariants as founds
use Rattle.lsr_console.specs.declared.listening.Heard.{Heard}
use Rattle.lsr_console.specs.declared.listening.Heard.TheVariants as heards

-- a line is handed over as its text, or as one that isn't UTF-8 from one of its bytes on
abbrev pub IsHeardAs : List ℕ → Heard → Type 0
IsHeardAs line (heards.Line text) = string_bytes text ≡ line
IsHeardAs line (heards.NotText at) = IsTextUpTo line at
IsHeardAs line heard = ⊥

-- what is handed over where a reader found this: the line, the end, or the fault
abbrev pub IsHeardOf : Result Found InputFault → List ℕ → Heard → Type 0
IsHeardOf (Ok founds.Line) line heard = IsHeardAs line heard
IsHeardOf (Ok founds.LastLine) line heard = IsHeardAs line heard
IsHeardOf (Ok founds.End) line heard = heard ≡ heards.End
IsHeardOf (Err fault) line heard = heard ≡ heards.Fault fault

-- whether nothing comes after it
abbrev pub is_last : Result Found InputFault → Bool
is_last (Ok founds.Line) = false
is_last (Ok founds.LastLine) = true
is_last (Ok founds.End) = true
is_last (Err fault) = true

-- What comes next of a stream is handed over, which was the old one and is the new one then; `held` was left to the reader of what came of
-- it, and `left` is.
pub record Hears (old new : Stream) (held left : List ℕ) (heard : Heard) (last : Bool) : Type 0 where
  pub line : List ℕ
  pub found : Result Found InputFault
  pub finds : Finds old new held line left found
  pub is : IsHeardOf found line heard
  pub ends : last ≡ is_last found
