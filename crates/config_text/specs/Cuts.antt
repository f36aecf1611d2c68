-- The records of a document, and the document of which only the first are left.
use Rattle.std.specs.Prelude.{ℕ, ◌+◌, ◌-◌, ◌≤◌, List, [], length, take, slice_get, is_some, Option, if◌then◌else◌}
use Rattle.std.specs.List.{list_all}
use Rattle.std.specs.Option.{option_and_then}
use Rattle.toml.specs.Data.{Data, array, as_table, get, get_member, Items, Members, no_members, member, same_key}
use Rattle.toml.specs.View.{items_of}
use Rattle.lsr_config.specs.Documents.{array_elements}
use Rattle.lsr_config.specs.Keys.{key_name}
use Rattle.lsr_config.specs.Values.{elements}
use Rattle.lsr_config.specs.declared.key.Key.{Key}
use Rattle.lsr_config.specs.declared.key.Key.TheVariants as key
use Rattle.config_text.specs.Sections.{section_key}
use Rattle.config_text.specs.declared.section.Section.{Section}
use Rattle.config_text.specs.declared.section.Section.TheVariants as sections
use Rattle.config_text.specs.declared.section.Spot.{Spot}
use Rattle.config_text.specs.declared.section.Spot.TheVariants as spots

-- ---- the records

-- these values where they are all tables, else none
abbrev pub only_tables : List Data → List Data
only_tables ds = if list_all (λ d. is_some (as_table d)) ds then ds else []

-- the records of the table of this name; none where anything else stands there
unfoldable pub tables : Key → Members → List Data
tables key ms = only_tables (array_elements (get_member (key_name key) ms))

-- the record of this number, counted from 1, in a table of records
abbrev pub record_of : Section → ℕ → Members → Option Data
record_of section number ms = slice_get (tables (section_key section) ms) (number - 1)

-- what stands at the spot under a key
abbrev pub value_at : Spot → List ℕ → Members → Option Data
value_at spots.Top name ms = get_member name ms
value_at (spots.Record section number) name ms = option_and_then (get name) (record_of section number ms)

-- the spot is one of the document
abbrev pub IsWithin : Spot → Members → Type 0
IsWithin spots.Top ms = Unit {0}
IsWithin (spots.Record section number) ms = (1 ≤ number) × (number ≤ length (tables (section_key section) ms))

-- how many records there are up to the spot, the links' first, then the routes', the tunnels' and the bypasses'
abbrev pub count_to : Spot → Members → ℕ
count_to spots.Top ms = 0
count_to (spots.Record sections.Links number) ms = number
count_to (spots.Record sections.Routes number) ms = length (tables key.Link ms) + number
count_to (spots.Record sections.Tunnels number) ms = length (tables key.Link ms) + (length (tables key.Route ms) + number)
count_to (spots.Record sections.Bypasses number) ms =
    length (tables key.Link ms) + (length (tables key.Route ms) + (length (tables key.Tunnel ms) + number))

-- how many records there are
abbrev pub count_all : Members → ℕ
count_all ms = count_to (spots.Record sections.Bypasses (length (tables key.Bypass ms))) ms

-- ---- the cut

-- the items, where they are tables only so many of them
abbrev pub cut_items : ℕ → Items → Items
cut_items count ds = if list_all (λ d. is_some (as_table d)) (elements ds) then items_of (take count (elements ds)) else ds

-- the value, where it lists tables with only so many of them
abbrev pub cut_value : ℕ → Data → Data
cut_value count (array ds) = array (cut_items count ds)
cut_value count d = d

-- the members, of which the value under the key is cut
unfoldable pub cut_at : List ℕ → ℕ → Members → Members
cut_at key count no_members = no_members
cut_at key count (member k d ms) = if same_key key k then member k (cut_value count d) ms else member k d (cut_at key count ms)

-- how many of so many records stand after those of this table
abbrev pub beyond : Key → Members → ℕ → ℕ
beyond key ms count = count - length (tables key ms)

-- the document with only so many records
unfoldable pub cut : ℕ → Members → Members
cut count ms =
    let routes = beyond key.Link ms count in
    let tunnels = beyond key.Route ms routes in
    let bypasses = beyond key.Tunnel ms tunnels in
    cut_at (key_name key.Bypass) bypasses (cut_at (key_name key.Tunnel) tunnels (cut_at (key_name key.Route) routes (cut_at (key_name key.Link) count ms)))
