-- What `step --live` prints and tells, and its status, on the router that it is given.
use Rattle.std.specs.Prelude.{◌≡◌, ◌⊎◌, ℕ, List, [], ◌++◌, Option, Some, None, Ok, Bool, true, false}
use Rattle.std.specs.Io.KnownBytes.{Appends}
use Rattle.lsr_config.specs.Configs.{Setup}
use Rattle.lsr_config.specs.Reading.{IsRead}
use Rattle.lsr_lines.specs.Live.{Lives, Marks}
use Rattle.line_streams.specs.Texts.{Stream}
use Rattle.line_streams.specs.declared.input.InputFault.{InputFault}
use Rattle.lsr_lines.specs.declared.live.LiveEnding.{LiveEnding}
use Rattle.lsr_lines.specs.declared.live.LiveEnding.TheVariants as lives
use Rattle.lsr_lines.specs.declared.step.Ending.TheVariants as lines
use Rattle.lsr_session.specs.Requests.{PrintsAnswer, SessionState}
use Rattle.lsr_runs.specs.Endings.{ending_text, status_of}
use Rattle.lsr_runs.specs.Sessions.{CannotBegin, IsConfigText, IsUnreadConfig, begun}
use Rattle.lsr_runs.specs.declared.endings.Source.TheVariants as sources
use Rattle.lsr_runs.specs.declared.endings.RunEnding.{RunEnding}
use Rattle.lsr_runs.specs.declared.endings.RunEnding.TheVariants as endings

-- how a run ends whose lines ended so
abbrev pub ending_of : LiveEnding → RunEnding
ending_of lives.Done = endings.Ran lines.Done
ending_of lives.Memory = endings.Ran lines.Memory
ending_of (lives.Unread fault) = endings.Unread sources.Input fault

-- the status: 1 where of a line was told that it is bad, else that of the ending
abbrev pub live_status : Bool → RunEnding → ℕ
live_status true ending = 1
live_status false ending = status_of ending

-- why no run begins: the text of the configuration isn't read, or no session begins on the router that it says
abbrev pub NeverBegins : Option Stream → RunEnding → Type 0
NeverBegins config ending =
    ((fault : InputFault) × (ending ≡ endings.Unread sources.Config fault) × IsUnreadConfig config fault)
    ⊎ ((configured : List ℕ) × IsConfigText config configured × CannotBegin configured ending)

-- A session began on the router of the configuration, and served the lines of the input; the input was the first one and is
-- the other now.
pub record RanLive (echo : Bool) (config : Option Stream) (input left : Stream) (printed told : List ℕ) (ending : LiveEnding) : Type 0 where
  pub configured : List ℕ
  pub setup : Setup
  pub session : SessionState
  pub config_read : IsConfigText config configured
  pub says : IsRead configured (Ok setup)
  pub begins : session ≡ begun setup
  pub lives : Lives PrintsAnswer echo session input left printed told ending

-- A run on the configuration of this name: lines are served, bad ones told, and how that ended; or none begins, nothing is
-- printed, the input isn't read, and that is told.
abbrev pub RunsLiveOn : List ℕ → Bool → Option Stream → Stream → Stream → Option (List ℕ) → Option (List ℕ) → Option (List ℕ) → Option (List ℕ) → ℕ → Type 0
RunsLiveOn name echo config input left output printed error told status =
    ((ending : LiveEnding) × (bad : Bool) × (text : List ℕ) × (said : List ℕ) × RanLive echo config input left text said ending
    × Marks bad said × (status ≡ live_status bad (ending_of ending))
    × Appends output printed text × Appends error told (said ++ ending_text name (ending_of ending)))
    ⊎ ((ending : RunEnding) × NeverBegins config ending × (left ≡ input) × (status ≡ status_of ending)
    × (printed ≡ output) × Appends error told (ending_text name ending))

-- A run on the router of the file of this name, or without one on the built-in router. `opens` says which file a name opens,
-- `fails` why it may open none, `stream` what a file is read as. A file that isn't opened is unread.
abbrev pub RunsLive : {F : Type 0} → (List ℕ → F → Type 0) → (List ℕ → InputFault → Type 0) → (F → Stream) → Bool → Option (List ℕ) → Stream → Stream → Option (List ℕ) → Option (List ℕ) → Option (List ℕ) → Option (List ℕ) → ℕ → Type 0
RunsLive opens fails stream echo None input left output printed error told status = RunsLiveOn [] echo None input left output printed error told status
RunsLive {F} opens fails stream echo (Some name) input left output printed error told status =
    ((file : F) × opens name file × RunsLiveOn name echo (Some (stream file)) input left output printed error told status)
    ⊎ ((fault : InputFault) × fails name fault × (left ≡ input) × (status ≡ 1) × (printed ≡ output)
    × Appends error told (ending_text name (endings.Unread sources.Config fault)))
