-- What an input is that is read as text, and which can't be.
use Rattle.std.specs.Prelude.{◌≡◌, ◌≤◌, ◌<◌, ℕ, List, ◌++◌, Option, Bool, true, codes, length, ⊤}
use Rattle.std.specs.Fmt.{decimal}
use Rattle.std.specs.Option.{IfSome}
use Rattle.std.specs.Str.{IsUtf8}
use Rattle.std.specs.Str.Lossy.{utf8_valid_len}
use Rattle.line_streams.specs.declared.input.InputFault.{InputFault}
use Rattle.line_streams.specs.declared.input.InputFault.TheVariants as faults

-- What is known of a stream: the bytes that it has left, where they are known; and whether it may break, so that not
-- all of them come.
pub record Stream : Type 0 where
  pub bytes : Option (List ℕ)
  pub may_break : Bool

-- Bytes that are taken as a text: UTF-8, and at most 16,777,216.
pub record IsText (bytes : List ℕ) : Type 0 where
  pub utf8 : IsUtf8 bytes
  pub short : length bytes ≤ 16777216

-- The text of a stream: all its bytes, where they are known.
pub record IsTextOf (stream : Stream) (text : List ℕ) : Type 0 where
  pub known : IfSome stream.bytes (λ bytes. text ≡ bytes)
  pub taken : IsText text

-- Bytes that aren't UTF-8; the longest front of them that is has this length.
abbrev pub IsTextUpTo : List ℕ → ℕ → Type 0
IsTextUpTo bytes at = (IsUtf8 bytes → ⊥) × (at ≡ utf8_valid_len bytes)

-- Why a stream isn't read as text: it may break, it has too many bytes, they aren't UTF-8 from one of them on, or memory ran out; of bytes that
-- aren't known nobody can say.
abbrev pub IsUnread : Stream → InputFault → Type 0
IsUnread stream faults.Absent = ⊥
IsUnread stream faults.Unopened = ⊥
IsUnread stream faults.Folder = stream.may_break ≡ true
IsUnread stream faults.Broken = stream.may_break ≡ true
IsUnread stream faults.TooLong = IfSome stream.bytes (λ bytes. 16777216 < length bytes)
IsUnread stream (faults.NotText at) = IfSome stream.bytes (λ bytes. IsTextUpTo bytes at)
IsUnread stream (faults.NotTextLine line at) = ⊥
IsUnread stream faults.Memory = ⊤

-- what is told of an input of this name that wasn't taken: where it is and what to do stands in a line of its own
abbrev pub input_fault_text : List ℕ → InputFault → List ℕ
input_fault_text name faults.Absent = codes "unreadable\n  " ++ (name ++ codes ": no such file; check the name, which counts from the folder where lsr runs\n")
input_fault_text name faults.Unopened = codes "unreadable\n  " ++ (name ++ codes " can't be opened: look at its name and its permissions\n")
input_fault_text name faults.Folder = codes "unreadable\n  " ++ (name ++ codes " is a folder: give a file\n")
input_fault_text name faults.Broken = codes "unreadable\n  " ++ (name ++ codes " can't be read to its end: look at where it comes from\n")
input_fault_text name faults.TooLong = codes "unreadable\n  " ++ (name ++ codes " has more than 16777216 bytes, the most that is read\n")
input_fault_text name (faults.NotText at) =
    codes "unreadable\n  " ++ (name ++ (codes " is no text: invalid UTF-8 at byte " ++ (decimal at ++ codes ", where the first is byte 0\n")))
input_fault_text name (faults.NotTextLine line at) =
    codes "unreadable\n  " ++ (name ++ (codes ", line " ++ (decimal line ++ (codes ", is no text: invalid UTF-8 at the line's byte " ++ (decimal at ++ codes ", where the first is byte 0\n")))))
input_fault_text name faults.Memory = codes "memory\n"
