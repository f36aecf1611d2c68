-- The text of a configuration in a file, and what the formats allow in it.
use Rattle.std.specs.Prelude.{◌≡◌, ◌↔◌, ℕ, Bool, false, IsTrue, List, Option, Some, None, is_some, Result, Ok, Err}
use Rattle.std.specs.List.{list_any}
use Rattle.std.specs.Str.{IsUtf8}
use Rattle.toml.specs.Data.{Data, Members, get, table}
use Rattle.toml.specs.Parse.{parse_document}
use Rattle.field_bytes.specs.declared.fault.ReadFault.{ReadFault}
use Rattle.field_bytes.specs.declared.fault.ReadFault.TheVariants as faults
use Rattle.lsr_config.specs.Configs.{Setup}
use Rattle.lsr_config.specs.Documents.{records}
use Rattle.lsr_config.specs.Keys.{key_name}
use Rattle.lsr_config.specs.Reading.{IsRead}
use Rattle.lsr_config.specs.declared.fault.ConfigFault.{ConfigFault}
use Rattle.lsr_config.specs.declared.fault.ConfigFault.TheVariants as config_faults
use Rattle.lsr_config.specs.declared.key.Key.TheVariants as key
use Rattle.journal_files.specs.declared.formats.FileFormat.{FileFormat}
use Rattle.journal_files.specs.declared.formats.FileFormat.TheVariants as formats

-- why a text that isn't read says no configuration: out of memory, or it breaks a rule
abbrev pub fault_of : ConfigFault → ReadFault
fault_of config_faults.Memory = faults.Memory
fault_of _ = faults.Format

-- The configuration that the text says; or Format exactly where it says none.
abbrev pub ReadsConfig : List ℕ → Result Setup ReadFault → Type 0
ReadsConfig text (Ok c) = IsRead text (Ok c)
ReadsConfig text (Err faults.Format) = (c : Setup) → IsRead text (Ok c) → ⊥
ReadsConfig text (Err faults.Memory) = Unit {0}

-- Whether it is so; there may be no memory to look.
abbrev pub Answers : Type 0 → Result Bool ReadFault → Type 0
Answers P (Ok answer) = IsTrue answer ↔ P
Answers P (Err faults.Format) = ⊥
Answers P (Err faults.Memory) = Unit {0}

-- the record of a bypass has the key of a capacity
abbrev pub names_capacity : Data → Bool
names_capacity d = is_some (get (key_name key.Capacity) d)

-- one of the document's has
abbrev pub names_some_capacity : Data → Bool
names_some_capacity document = list_any names_capacity (records key.Bypass document)

-- No record of a bypass in the text has the key of a capacity, be it 0.
abbrev pub NamesNoCapacity : List ℕ → Type 0
NamesNoCapacity text = (members : Members) → parse_document text ≡ Some members → names_some_capacity (table members) ≡ false

-- What a format allows a text to say: the first no capacity and no label that rests, the second no label that rests, the third all.
abbrev pub Allows : FileFormat → List ℕ → Setup → Type 0
Allows formats.First text c = (c.router.label_rest_ms ≡ 0) × NamesNoCapacity text
Allows formats.Second text c = c.router.label_rest_ms ≡ 0
Allows formats.Third text c = Unit {0}

-- the bytes are a text that says this configuration, and it is allowed
pub record SaysConfig (format : FileFormat) (bytes : List ℕ) (c : Setup) : Type 0 where
  pub utf8 : IsUtf8 bytes
  pub read : IsRead bytes (Ok c)
  pub allowed : Allows format bytes c

-- The configuration that the bytes say; or Format exactly where they say none that is allowed.
abbrev pub ReadsText : FileFormat → List ℕ → Result Setup ReadFault → Type 0
ReadsText format bytes (Ok c) = SaysConfig format bytes c
ReadsText format bytes (Err faults.Format) = (c : Setup) → SaysConfig format bytes c → ⊥
ReadsText format bytes (Err faults.Memory) = Unit {0}
