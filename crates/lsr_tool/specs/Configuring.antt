-- What `lsr config` prints, and how it ends.
use Rattle.std.specs.Prelude.{◌≡◌, ◌≢◌, ◌⊎◌, ℕ, List, [], Option, Some, None, Ok}
use Rattle.std.specs.Io.KnownBytes.{Appends}
use Rattle.config_text.specs.Printing.{config_text}
use Rattle.lsr_config.specs.Configs.{Setup}
use Rattle.lsr_config.specs.Reading.{IsRead}
use Rattle.lsr_config.specs.declared.fault.ConfigFault.{ConfigFault}
use Rattle.lsr_config.specs.declared.fault.ConfigFault.TheVariants as fault
use Rattle.line_streams.specs.Texts.{Stream}
use Rattle.line_streams.specs.declared.input.InputFault.{InputFault}
use Rattle.lsr_lines.specs.declared.step.Ending.TheVariants as lines
use Rattle.lsr_serve.specs.Sockets.{GivesSockets, LacksSockets}
use Rattle.lsr_config.specs.declared.sockets.LinkSockets.{LinkSockets}
use Rattle.lsr_runs.specs.Endings.{ending_text, status_of}
use Rattle.lsr_runs.specs.Sessions.{IsConfigText, IsMisconfigured, IsUnreadConfig, name_of}
use Rattle.lsr_runs.specs.declared.endings.Source.TheVariants as sources
use Rattle.lsr_runs.specs.declared.endings.RunEnding.{RunEnding}
use Rattle.lsr_runs.specs.declared.endings.RunEnding.TheVariants as endings

-- The text gives its links these socket addresses, in the order of their numbers. There are none where it doesn't give each
-- link both, for this fault.
abbrev pub GivesAddresses : List ℕ → List (ℕ × LinkSockets) → Type 0
GivesAddresses text rows =
    ((rows ≡ []) × ((f : ConfigFault) × (f ≢ fault.Memory) × LacksSockets text f)) ⊎ GivesSockets text rows

-- what is printed of a text that says a configuration
abbrev pub Prints : List ℕ → List ℕ → Type 0
Prints text printed =
    (config : Setup) × (addresses : List (ℕ × LinkSockets)) × IsRead text (Ok config) × GivesAddresses text addresses
    × (printed ≡ config_text config addresses)

-- a run that ended well
abbrev pub done : RunEnding
done = endings.Ran lines.Done

-- A configuration is printed as the router understands it: that of the stream, or without one the built-in one. Nothing is
-- printed where the stream can't be read, where its text gives no router, or where memory ran out.
abbrev pub PrintsConfig : Option Stream → List ℕ → RunEnding → Type 0
PrintsConfig stream printed (endings.Ran lines.Done) = (text : List ℕ) × IsConfigText stream text × Prints text printed
PrintsConfig stream printed (endings.Unread sources.Config fault) = (printed ≡ []) × IsUnreadConfig stream fault
PrintsConfig stream printed endings.Memory = printed ≡ []
PrintsConfig stream printed (endings.BadConfig fault place) = (printed ≡ []) × ((text : List ℕ) × IsConfigText stream text × IsMisconfigured text fault place)
PrintsConfig stream printed ending = ⊥

-- The configuration of the file of this name is printed, or without a name the built-in one. `opens` says which file a name
-- opens, `fails` why it may open none, `stream` what a file is read as. A file that isn't opened is unread.
abbrev pub PrintsOnFile : {F : Type 0} → (List ℕ → F → Type 0) → (List ℕ → InputFault → Type 0) → (F → Stream) → Option (List ℕ) → List ℕ → RunEnding → Type 0
PrintsOnFile opens fails stream None printed ending = PrintsConfig None printed ending
PrintsOnFile {F} opens fails stream (Some name) printed ending =
    ((file : F) × opens name file × PrintsConfig (Some (stream file)) printed ending)
    ⊎ ((fault : InputFault) × fails name fault × (printed ≡ []) × (ending ≡ endings.Unread sources.Config fault))

-- The configuration of the file of this name, or without a name the built-in one, is printed, or why it isn't is told, with
-- this status.
abbrev pub Configures : {F : Type 0} → (List ℕ → F → Type 0) → (List ℕ → InputFault → Type 0) → (F → Stream) → Option (List ℕ) → Option (List ℕ) → Option (List ℕ) → Option (List ℕ) → Option (List ℕ) → ℕ → Type 0
Configures opens fails stream file output printed error told status =
    (ending : RunEnding) × (text : List ℕ) × (status ≡ status_of ending) × PrintsOnFile opens fails stream file text ending
    × Appends output printed text × Appends error told (ending_text (name_of file) ending)
