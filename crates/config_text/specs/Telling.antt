-- What is told of the place of a fault.
use Rattle.std.specs.Prelude.{ℕ, List, ◌++◌, codes, string_bytes}
use Rattle.std.specs.Fmt.{decimal}
use Rattle.lsr_config.specs.Keys.{key_name}
use Rattle.lsr_config.specs.declared.fault.ConfigFault.{ConfigFault}
use Rattle.config_text.specs.Allowed.{allowed, toml_allowed}
use Rattle.config_text.specs.Sections.{section_key}
use Rattle.config_text.specs.declared.section.Section.{Section}
use Rattle.config_text.specs.declared.section.Spot.{Spot}
use Rattle.config_text.specs.declared.section.Spot.TheVariants as spots
use Rattle.config_text.specs.declared.place.Place.{Place}
use Rattle.config_text.specs.declared.place.Place.TheVariants as places

-- where the text stops being TOML, and why
unfoldable pub stop_text : ℕ → ℕ → List ℕ → List ℕ
stop_text line column reason =
    codes "  line " ++ (decimal line ++ (codes ", column " ++ (decimal column ++ (codes ": " ++ (reason ++ (codes "\n  allowed: " ++ (toml_allowed ++ codes "\n")))))))

-- what is found before the records
unfoldable pub top_text : List ℕ → List ℕ → List ℕ
top_text found allowed = codes "  before the records: " ++ (found ++ (codes "\n  allowed: " ++ (allowed ++ codes "\n")))

-- what is found in a record
unfoldable pub record_text : Section → ℕ → List ℕ → List ℕ → List ℕ
record_text section number found allowed =
    codes "  record " ++ (decimal number ++ (codes " of [[" ++ (key_name (section_key section) ++ (codes "]]: " ++ (found ++ (codes "\n  allowed: " ++ (allowed ++ codes "\n")))))))

-- what is found at a spot
unfoldable pub entry_text : Spot → List ℕ → List ℕ → List ℕ
entry_text spots.Top found allowed = top_text found allowed
entry_text (spots.Record section number) found allowed = record_text section number found allowed

-- where the fault stands, and what is allowed there
unfoldable pub place_text : ConfigFault → Place → List ℕ
place_text f (places.Stop line column reason) = stop_text line column (string_bytes reason)
place_text f (places.Entry spot found) = entry_text spot (string_bytes found) (allowed f spot)
