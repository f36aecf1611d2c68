-- Where the fault of a configuration's text stands.
use Rattle.std.specs.Prelude.{◌≡◌, ◌⊎◌, ℕ, ◌-◌, ◌≤◌, ◌<◌, Bool, true, false, not, ◌&&◌, nat_le, List, [], ◌++◌, length, take, codes, bytes_eq, string_bytes, Option, Some, None, IsSome, Result, Err, MatchResult, if◌then◌else◌}
use Rattle.std.specs.List.{list_any}
use Rattle.toml.specs.Data.{Data, Members}
use Rattle.toml.specs.Parse.{parse_document}
use Rattle.toml.specs.Text.{IsDocumentText, IsValueText}
use Rattle.lsr_config.specs.Configs.{Setup}
use Rattle.lsr_config.specs.Faults.{fault_name, fault_word}
use Rattle.lsr_config.specs.Reading.{IsRead}
use Rattle.lsr_config.specs.declared.fault.ConfigFault.{ConfigFault}
use Rattle.lsr_config.specs.declared.fault.ConfigFault.TheVariants as fault
use Rattle.config_text.specs.Cuts.{IsWithin, count_to, cut, value_at}
use Rattle.config_text.specs.Positions.{column_after, is_newline, line_after}
use Rattle.config_text.specs.declared.section.Section.TheVariants as sections
use Rattle.config_text.specs.declared.section.Spot.TheVariants as spots
use Rattle.config_text.specs.declared.place.Place.{Place}
use Rattle.config_text.specs.declared.place.Place.TheVariants as places

-- the fact holds of what the text spells as a document
abbrev pub OfText : List ℕ → (Members → Type 0) → Type 0
OfText text P = (ms : Members) × (parse_document text ≡ Some ms) × P ms

-- ---- the same fault again

-- a name, or no bytes where there is none
abbrev pub name_or_none : Option (List ℕ) → List ℕ
name_or_none None = []
name_or_none (Some name) = name

-- the key that is at fault
abbrev pub key_of : ConfigFault → List ℕ
key_of f = name_or_none (fault_name f)

-- faults of one kind at one key
abbrev pub is_same : ConfigFault → ConfigFault → Bool
is_same f again = bytes_eq (fault_word f) (fault_word again) && bytes_eq (key_of f) (key_of again)

-- reading a text of the document with only so many records gives this
abbrev pub ReadsCut : ℕ → Members → Result Setup ConfigFault → Type 0
ReadsCut count ms result = (left : List ℕ) × IsDocumentText false (cut count ms) left × IsRead left result

-- the document with only so many records has the fault
abbrev pub HasFault : ConfigFault → ℕ → Members → Type 0
HasFault f count ms = (again : ConfigFault) × ReadsCut count ms (Err again) × (is_same f again ≡ true)

-- the document with only so many records has it not
abbrev pub LacksFault : ConfigFault → ℕ → Members → Type 0
LacksFault f count ms =
    (result : Result Setup ConfigFault) × ReadsCut count ms result × MatchResult result (λ config. Unit {0}) (λ other. is_same f other ≡ false)

-- the fault is there with so many records, and isn't with one less
abbrev pub BeginsAt : ConfigFault → ℕ → Members → Type 0
BeginsAt f count ms = HasFault f count ms × ((count ≡ 0) ⊎ LacksFault f (count - 1) ms)

-- ---- what is found

-- the text is one line of at most 200 bytes
abbrev pub is_short : List ℕ → Bool
is_short text = nat_le (length text) 200 && not (list_any is_newline text)

-- a text is shown where it is short
abbrev pub shown : List ℕ → List ℕ
shown text = if is_short text then text else codes "..."

-- what is said after a value
abbrev pub remark : ConfigFault → List ℕ
remark (fault.Repeated key) = codes ", which another has"
remark (fault.UnknownName key) = codes ", which none has"
remark _ = []

-- the text tells of the key that it isn't there, or of its value
abbrev pub IsFoundAt : ConfigFault → Option Data → List ℕ → Type 0
IsFoundAt f None text = text ≡ codes "there is no " ++ key_of f
IsFoundAt f (Some d) text =
    (written : List ℕ) × IsValueText false d written × (text ≡ key_of f ++ (codes " = " ++ (shown written ++ remark f)))

-- the text tells what stands under the key of the fault, or that the record is one too many
abbrev pub IsFound : ConfigFault → Option Data → List ℕ → Type 0
IsFound (fault.TooMany key) found text = text ≡ codes "it is one too many"
IsFound f found text = IsFoundAt f found text

-- ---- places

-- The place is that of the fault of the text. A text that isn't TOML is read up to somewhere within it, where this line and
-- column are. Any other fault stands at a spot of the document: with the records up to there it is there, and without the
-- last of them it isn't; what is told is what stands under its key at that spot.
abbrev pub IsPlaceOf : List ℕ → ConfigFault → Place → Type 0
IsPlaceOf text f (places.Stop line column reason) =
    (f ≡ fault.Text) × (parse_document text ≡ None)
    × ((stop : ℕ) × (stop ≤ length text) × (line ≡ line_after (take stop text)) × (column ≡ column_after (take stop text)))
IsPlaceOf text f (places.Entry spot found) =
    OfText text (λ ms. IsWithin spot ms × BeginsAt f (count_to spot ms) ms × IsFound f (value_at spot (key_of f) ms) (string_bytes found))

-- the link of this number, counted from 1, is the first that has no value under the key
abbrev pub IsFirstWithout : List ℕ → ℕ → Members → Type 0
IsFirstWithout name number ms =
    IsWithin (spots.Record sections.Links number) ms × (value_at (spots.Record sections.Links number) name ms ≡ None)
    × ((before : ℕ) → 1 ≤ before → before < number → IsSome (value_at (spots.Record sections.Links before) name ms))

-- the place is the first link that has no value under the key of the fault
abbrev pub IsLinkWithout : List ℕ → ConfigFault → Place → Type 0
IsLinkWithout text f (places.Entry (spots.Record sections.Links number) found) =
    OfText text (IsFirstWithout (key_of f) number) × IsFoundAt f None (string_bytes found)
IsLinkWithout text f place = ⊥
