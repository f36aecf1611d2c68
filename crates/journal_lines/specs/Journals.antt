-- What is shown of the bytes of a journal, and where they break.
use Rattle.std.specs.Prelude.{◌≡◌, ◌⊎◌, ◌+◌, ◌-◌, ℕ, zero, suc, Bool, true, false, List, [], ◌∷◌, ◌++◌, codes, length, Option, Some, None}
use Rattle.std.specs.Fmt.{decimal}
use Rattle.event_fields.specs.Fitting.{IsWord}
use Rattle.event_fields.specs.Laws.{word_bytes}
use Rattle.field_bytes.specs.Spelling.{IsCountable, octet_bytes}
use Rattle.lsr_config.specs.Configs.{Setup}
use Rattle.lsr_facts.specs.declared.router.Router.{Router}
use Rattle.lsr_facts.specs.declared.state.State.{State}
use Rattle.journal_bytes.specs.declared.entry.Entry.{Entry}
use Rattle.journal_files.specs.Entries.{entry_bytes}
use Rattle.journal_files.specs.Fitting.{BaseFits, EntryFits, TextFits}
use Rattle.journal_files.specs.Formats.{base_bytes, text_bytes}
use Rattle.journal_files.specs.Recordings.{file_bytes, format_number}
use Rattle.journal_files.specs.Texts.{SaysConfig}
use Rattle.journal_files.specs.declared.formats.FileFormat.{FileFormat}
use Rattle.lsr_text.specs.Summary.{counts_text}
use Rattle.object_text.specs.Words.{address_text}
use Rattle.journal_lines.specs.Entries.{ShowsEntry}
use Rattle.journal_lines.specs.declared.breaks.Break.{Break}
use Rattle.journal_lines.specs.declared.breaks.Part.{Part}
use Rattle.journal_lines.specs.declared.breaks.Part.TheVariants as parts

-- ---- where bytes break

-- A value stands at the head of the bytes, and this after it.
abbrev pub StandsAt : {V : Type 0} → (V → Type 0) → (V → List ℕ) → List ℕ → V → List ℕ → Type 0
StandsAt Fits spelling bytes value rest = (bytes ≡ spelling value ++ rest) × Fits value

-- No value stands there.
abbrev pub NoneStandsAt : {V : Type 0} → (V → Type 0) → (V → List ℕ) → List ℕ → Type 0
NoneStandsAt {V = V} Fits spelling bytes = (value : V) (rest : List ℕ) → Fits value → bytes ≡ spelling value ++ rest → ⊥

-- they break where these bytes are left, which aren't this part
abbrev pub breaks : Part → List ℕ → Option Break
breaks part bytes = Some (record { part = part; left = length bytes })

-- after the last entry nothing stands
abbrev pub end_of : List ℕ → Option Break
end_of [] = None
end_of (byte ∷ bytes) = breaks parts.End (byte ∷ bytes)

-- what they aren't
abbrev pub part_words : Part → List ℕ
part_words parts.Format = codes "these bytes are no journal of a format that is known"
part_words parts.Text = codes "these bytes are no configuration that the format allows"
part_words parts.Base = codes "these bytes are nothing that a router knows"
part_words parts.Count = codes "these bytes are no number of entries"
part_words parts.Entry = codes "these bytes are no entry"
part_words parts.End = codes "these bytes stand after the last entry"

-- `byte N: ..`, counted from 0, of so many bytes
abbrev pub break_line : ℕ → Break → List ℕ
break_line all b = codes "byte " ++ (decimal (all - b.left) ++ (codes ": " ++ (part_words b.part ++ codes "\n")))

-- what is told, and the status
abbrev pub break_text : ℕ → Option Break → List ℕ
break_text all None = []
break_text all (Some b) = break_line all b

abbrev pub break_status : Option Break → ℕ
break_status None = 0
break_status (Some b) = 1

-- ---- the head

-- the format
abbrev pub format_line : FileFormat → List ℕ
format_line format = codes "journal of format " ++ (decimal (format_number format) ++ codes "\n")

-- the router's id
abbrev pub router_line : Router → List ℕ
router_line r = codes "router " ++ (address_text r.id ++ codes "\n")

abbrev pub base_word : Bool → List ℕ
base_word true = codes "cold"
base_word false = codes "running"

-- whether the router was cold before the first entry, the moment that it was told last, and how much there was of everything
abbrev pub base_lines : Router → State → List ℕ
base_lines r s = codes "base " ++ (base_word s.facts.cold ++ (codes " at " ++ (decimal s.facts.moment ++ (codes "\n" ++ counts_text r s))))

-- how many entries there are
abbrev pub count_line : ℕ → List ℕ
count_line count = codes "entries " ++ (decimal count ++ codes "\n")

-- ---- the journal, part by part

-- an entry at the head of the bytes
abbrev pub EntryAt : FileFormat → List ℕ → Entry → List ℕ → Type 0
EntryAt format = StandsAt (EntryFits (TextFits format)) (entry_bytes (text_bytes format))

abbrev pub NoEntryAt : FileFormat → List ℕ → Type 0
NoEntryAt format = NoneStandsAt (EntryFits (TextFits format)) (entry_bytes (text_bytes format))

-- So many entries, from this number on: each is shown, up to the first that the bytes are not.
abbrev pub ShowsEntries : Router → FileFormat → ℕ → ℕ → List ℕ → List ℕ → Option Break → Type 0
ShowsEntries r format number zero bytes text broken = (text ≡ []) × (broken ≡ end_of bytes)
ShowsEntries r format number (suc left) bytes text broken =
    ((entry : Entry) × (rest : List ℕ) × (shown : List ℕ) × (more : List ℕ) × EntryAt format bytes entry rest × ShowsEntry r number entry shown
    × ShowsEntries r format (number + 1) left rest more broken × (text ≡ shown ++ more))
    ⊎ (NoEntryAt format bytes × (text ≡ []) × (broken ≡ breaks parts.Entry bytes))

-- How many entries there are, and the entries.
abbrev pub ShowsCount : Router → FileFormat → List ℕ → List ℕ → Option Break → Type 0
ShowsCount r format bytes text broken =
    ((count : ℕ) × (rest : List ℕ) × (more : List ℕ) × StandsAt IsWord word_bytes bytes count rest × ShowsEntries r format 1 count rest more broken
    × (text ≡ count_line count ++ more))
    ⊎ (NoneStandsAt IsWord word_bytes bytes × (text ≡ []) × (broken ≡ breaks parts.Count bytes))

-- What the router knew, and what follows.
abbrev pub ShowsBase : Router → FileFormat → List ℕ → List ℕ → Option Break → Type 0
ShowsBase r format bytes text broken =
    ((base : State) × (rest : List ℕ) × (more : List ℕ) × StandsAt (BaseFits format) (base_bytes format) bytes base rest × ShowsCount r format rest more broken
    × (text ≡ base_lines r base ++ more))
    ⊎ (NoneStandsAt (BaseFits format) (base_bytes format) bytes × (text ≡ []) × (broken ≡ breaks parts.Base bytes))

-- a text at the head of the bytes
abbrev pub TextAt : List ℕ → List ℕ → List ℕ → Type 0
TextAt = StandsAt (λ (text : List ℕ). IsCountable text) octet_bytes

-- No text stands there, or one that says no configuration which the format allows.
abbrev pub NoConfigAt : FileFormat → List ℕ → Type 0
NoConfigAt format bytes =
    NoneStandsAt (λ (text : List ℕ). IsCountable text) octet_bytes bytes
    ⊎ ((text : List ℕ) × (rest : List ℕ) × TextAt bytes text rest × ((c : Setup) → SaysConfig format text c → ⊥))

-- The text of a configuration, and what follows.
abbrev pub ShowsBody : FileFormat → List ℕ → List ℕ → Option Break → Type 0
ShowsBody format bytes text broken =
    ((words : List ℕ) × (rest : List ℕ) × (c : Setup) × (more : List ℕ) × TextAt bytes words rest × SaysConfig format words c × ShowsBase c.router format rest more broken
    × (text ≡ router_line c.router ++ more))
    ⊎ (NoConfigAt format bytes × (text ≡ []) × (broken ≡ breaks parts.Text bytes))

-- What is shown of the bytes of a journal, up to where they break.
abbrev pub ShowsJournal : List ℕ → List ℕ → Option Break → Type 0
ShowsJournal bytes text broken =
    ((format : FileFormat) × (body : List ℕ) × (more : List ℕ) × (bytes ≡ file_bytes format body) × ShowsBody format body more broken
    × (text ≡ format_line format ++ more))
    ⊎ (((format : FileFormat) (body : List ℕ) → bytes ≡ file_bytes format body → ⊥) × (text ≡ []) × (broken ≡ breaks parts.Format bytes))
