-- What a file has after its format's number, in each format.
use Rattle.std.specs.Prelude.{◌++◌, ℕ, List}
use Rattle.field_bytes.specs.Spelling.{list_bytes, octet_bytes}
use Rattle.lsr_facts.specs.declared.state.State.{State}
use Rattle.journal_bytes.specs.declared.entry.Entry.{Entry}
use Rattle.fact_fields.specs.Tunnels.{bypass_bytes, plain_bypass_bytes}
use Rattle.journal_files.specs.Entries.{entry_bytes}
use Rattle.journal_files.specs.FirstFormat.{first_text}
use Rattle.journal_files.specs.Rows.{absent_bytes, promise_row_bytes, resting_row_bytes}
use Rattle.journal_files.specs.States.{state_bytes}
use Rattle.journal_files.specs.declared.formats.FileFormat.{FileFormat}
use Rattle.journal_files.specs.declared.formats.FileFormat.TheVariants as formats

-- a text, what a router knew, and entries
abbrev pub Stored : Type 0
Stored = List ℕ × (State × List Entry)

-- an event's bytes as they stand
abbrev pub same_text : List ℕ → List ℕ
same_text text = text

-- How a format has what a router knew: in the first bypasses have no capacities, and there are no promises; before the third there are no
-- labels that rest.
abbrev pub base_bytes : FileFormat → State → List ℕ
base_bytes formats.First = state_bytes plain_bypass_bytes absent_bytes absent_bytes
base_bytes formats.Second = state_bytes bypass_bytes (list_bytes promise_row_bytes) absent_bytes
base_bytes formats.Third = state_bytes bypass_bytes (list_bytes promise_row_bytes) (list_bytes resting_row_bytes)

-- and how it has the bytes of an event
abbrev pub text_bytes : FileFormat → List ℕ → List ℕ
text_bytes formats.First = first_text
text_bytes formats.Second = same_text
text_bytes formats.Third = same_text

-- how many bytes the text has, in 4 bytes, and the text; what the router knew; how many entries there are, in 4 bytes, and the entries
abbrev pub format_bytes : FileFormat → Stored → List ℕ
format_bytes format s = octet_bytes s.0 ++ (base_bytes format s.1.0 ++ list_bytes (entry_bytes (text_bytes format)) s.1.1)
