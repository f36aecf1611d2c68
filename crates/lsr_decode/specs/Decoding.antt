-- What `decode` prints for a message.
use Rattle.std.specs.Prelude.{◌≡◌, ℕ, ◌%◌, List, [], ◌∷◌, ◌++◌, None, Bool, false, true, length, drop, codes, flat_map, Ok, string_bytes, if◌then◌else◌}
use Rattle.std.specs.Char.{is_ascii_hexdigit}
use Rattle.std.specs.List.{All, list_all}
use Rattle.std.specs.Fmt.{decimal}
use Rattle.hex.specs.Hex.{encode_lower, decode_of}
use Rattle.rsvp_objects.specs.Objects.{SpellsObject}
use Rattle.rsvp_objects.specs.Raw.{Raw, object_bytes}
use Rattle.rsvp_objects.specs.declared.object.Object.{Object}
use Rattle.object_text.specs.Fields.{fields_text}
use Rattle.rsvp_contents.specs.declared.dropped.Dropped.{Dropped}
use Rattle.rsvp_contents.specs.declared.dropped.Dropped.TheVariants.{NoMemory}
use Rattle.rsvp_contents.specs.declared.message.Reading.{Reading}
use Rattle.rsvp_contents.specs.Picking.{content_in}
use Rattle.rsvp_contents.specs.Spelling.{SpellsReading, IsFirstFault, header_fault}
use Rattle.rsvp_contents.specs.declared.messages.Content.{Content}
use Rattle.rsvp_contents.specs.declared.messages.Content.TheVariants as contents
use Rattle.lsr_facts.specs.declared.refusal.Refusal.TheVariants.{Unread}
use Rattle.lsr_text.specs.Answers.{refusal_line}
use Rattle.lsr_decode.specs.declared.decoding.Decoded.{Decoded}
use Rattle.lsr_decode.specs.declared.decoding.Decoded.TheVariants as answers

-- the name of a message's type (RFC 2205, 3.1.1)
abbrev pub kind_of : Content → List ℕ
kind_of (contents.Path p) = codes "Path"
kind_of (contents.Resv r) = codes "Resv"
kind_of (contents.PathErr e) = codes "PathErr"
kind_of (contents.ResvErr e) = codes "ResvErr"
kind_of (contents.PathTear t) = codes "PathTear"
kind_of (contents.ResvTear t) = codes "ResvTear"

-- a body in hexadecimal digits after a space, or nothing
abbrev pub body_word : List ℕ → List ℕ
body_word [] = []
body_word (byte ∷ bytes) = codes " " ++ encode_lower (byte ∷ bytes)

-- `CLASS CTYPE BODY`
abbrev pub object_line : Raw → List ℕ
object_line raw = decimal raw.class ++ (codes " " ++ (decimal raw.ctype ++ (body_word raw.body ++ codes "\n")))

-- `KIND LENGTH`, and after it the lines of the objects
abbrev pub message_lines : Content → ℕ → List ℕ → List ℕ
message_lines content size lines = kind_of content ++ (codes " " ++ (decimal size ++ (codes "\n" ++ lines)))

-- the lines of an object: that of its class, its C-Type and its body; and with fields those of what it says
abbrev pub fields_lines : Bool → Object → List ℕ
fields_lines fields object = if fields then fields_text object else []

abbrev pub object_lines : Bool → Raw × Object → List ℕ
object_lines fields o = object_line o.0 ++ fields_lines fields o.1

abbrev pub bytes_of : Raw × Object → List ℕ
bytes_of o = object_bytes o.0

-- the bytes of an object say this
abbrev pub IsSpelled : Raw × Object → Type 0
IsSpelled o = SpellsObject (bytes_of o) o.1

-- The objects stand after the message's header of eight bytes, one after the other; each has its lines.
pub record ShowsObjects (fields : Bool) (bytes printed : List ℕ) : Type 0 where
  pub objects : List (Raw × Object)
  pub spelled : All IsSpelled objects
  pub parts : bytes ≡ flat_map bytes_of objects
  pub lines : printed ≡ flat_map (object_lines fields) objects

-- The bytes are read as a message: the line of its type, and after it those of its objects.
pub record ShowsMessage (fields : Bool) (bytes printed : List ℕ) : Type 0 where
  pub reading : Reading
  pub spelled : SpellsReading bytes reading
  pub lines : List ℕ
  pub objects : ShowsObjects fields (drop 8 bytes) lines
  pub shown : printed ≡ message_lines (content_in reading) (length bytes) lines

-- the bytes are read as no message, for this first fault; or their common header has no fault, and there was no memory to
-- read what stands after it
abbrev pub RefusesMessage : List ℕ → Dropped → Type 0
RefusesMessage bytes NoMemory = header_fault bytes ≡ None
RefusesMessage bytes fault = IsFirstFault bytes fault

-- a word that isn't bytes in hexadecimal digits
abbrev pub IsNotHex : List ℕ → Type 0
IsNotHex word = (bytes : List ℕ) → decode_of word ≡ Ok bytes → ⊥

-- What a word is decoded as, where it is the bytes of a message in hexadecimal digits; and else whether all of it are digits,
-- of which there is then an odd number. Memory runs out for no word with an odd number of bytes.
abbrev pub Decodes : Bool → List ℕ → Decoded → Type 0
Decodes fields word (answers.Shown text) = (bytes : List ℕ) × (decode_of word ≡ Ok bytes) × ShowsMessage fields bytes (string_bytes text)
Decodes fields word (answers.Refused fault) = (bytes : List ℕ) × (decode_of word ≡ Ok bytes) × RefusesMessage bytes fault
Decodes fields word answers.NoDigits = IsNotHex word × (list_all is_ascii_hexdigit word ≡ false)
Decodes fields word answers.OddDigits = IsNotHex word × (list_all is_ascii_hexdigit word ≡ true)
Decodes fields word answers.Memory = length word % 2 ≡ 0

-- what is printed on the output
abbrev pub shown_text : Decoded → List ℕ
shown_text (answers.Shown text) = string_bytes text
shown_text (answers.Refused fault) = []
shown_text answers.NoDigits = []
shown_text answers.OddDigits = []
shown_text answers.Memory = []

-- what is told on the error stream
abbrev pub told_text : Decoded → List ℕ
told_text (answers.Shown text) = []
told_text (answers.Refused fault) = refusal_line (Unread fault)
told_text answers.NoDigits = codes "error: HEX is an even number of hexadecimal digits; see lsr decode --help\n"
told_text answers.OddDigits = codes "error: HEX is an even number of hexadecimal digits; see lsr decode --help\n"
told_text answers.Memory = codes "memory\n"

-- the status: 2 where the word is none
abbrev pub decoded_status : Decoded → ℕ
decoded_status (answers.Shown text) = 0
decoded_status (answers.Refused fault) = 1
decoded_status answers.NoDigits = 2
decoded_status answers.OddDigits = 2
decoded_status answers.Memory = 1
