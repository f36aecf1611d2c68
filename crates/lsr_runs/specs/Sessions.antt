-- What `step` prints, and how it ends, on the router that it is given.
use Rattle.std.specs.Prelude.{◌≡◌, ℕ, List, [], Option, Some, None, IfSome, Ok, Err, Bool, ◌⊎◌}
use Rattle.config_text.specs.Places.{IsPlaceOf}
use Rattle.config_text.specs.declared.place.Place.{Place}
use Rattle.lsr_config.specs.Configs.{Setup}
use Rattle.lsr_config.specs.Reading.{IsRead}
use Rattle.lsr_config.specs.declared.config.TheConstants.{BUILT_IN}
use Rattle.lsr_config.specs.declared.fault.ConfigFault.{ConfigFault}
use Rattle.lsr_session.specs.States.{opened}
use Rattle.line_streams.specs.Cuts.{lines_of}
use Rattle.lsr_session.specs.Requests.{PrintsAnswer, SessionState}
use Rattle.lsr_lines.specs.Steps.{Ends}
use Rattle.line_streams.specs.Texts.{IsTextOf, IsUnread, Stream}
use Rattle.line_streams.specs.declared.input.InputFault.{InputFault}
use Rattle.lsr_lines.specs.declared.step.Ending.{Ending}
use Rattle.lsr_runs.specs.declared.endings.Source.{Source}
use Rattle.lsr_runs.specs.declared.endings.Source.TheVariants as sources
use Rattle.lsr_runs.specs.declared.endings.RunEnding.{RunEnding}
use Rattle.lsr_runs.specs.declared.endings.RunEnding.TheVariants as endings

-- the text that says the router: one that was given, or without one that of the built-in router
abbrev pub said_by : Option (List ℕ) → List ℕ
said_by None = BUILT_IN.now
said_by (Some text) = text

-- the text of a run's configuration: what is read from its stream, or without one the built-in router's
abbrev pub IsConfigText : Option Stream → List ℕ → Type 0
IsConfigText None text = text ≡ BUILT_IN.now
IsConfigText (Some stream) text = IsTextOf stream text

-- a session that begins: the router as it is opened, and no reply yet
abbrev pub begun : Setup → SessionState
begun config = record { router = opened config; recent = [] }

-- the text gives no router for this fault, which stands at this place where that is known
abbrev pub IsMisconfigured : List ℕ → ConfigFault → Option Place → Type 0
IsMisconfigured configured fault place = IsRead configured (Err fault) × IfSome place (IsPlaceOf configured fault)

-- why no run begins: the fault of its configuration; or memory ran out
abbrev pub CannotBegin : List ℕ → RunEnding → Type 0
CannotBegin configured (endings.BadConfig fault place) = IsMisconfigured configured fault place
CannotBegin configured endings.Memory = Unit {0}
CannotBegin configured ending = ⊥

-- The texts of the configuration and of the input are read, and a session begins on the router that the first says.
pub record IsReady (stream : Option Stream) (input : Stream) (session : SessionState) (text : List ℕ) : Type 0 where
  pub configured : List ℕ
  pub config : Setup
  pub config_read : IsConfigText stream configured
  pub input_read : IsTextOf input text
  pub says : IsRead configured (Ok config)
  pub begins : session ≡ begun config

-- A session began, and gave answers to the lines of the input, one after the other, up to this ending.
pub record RanLines (echo : Bool) (stream : Option Stream) (input : Stream) (printed : List ℕ) (ending : Ending) : Type 0 where
  pub session : SessionState
  pub text : List ℕ
  pub ready : IsReady stream input session text
  pub ends : Ends PrintsAnswer echo session (lines_of text) printed ending

-- Both texts were read, and that of the configuration gives no router, for this fault at this place.
pub record IsRefusedFor (stream : Option Stream) (input : Stream) (fault : ConfigFault) (place : Option Place) : Type 0 where
  pub configured : List ℕ
  pub text : List ℕ
  pub config_read : IsConfigText stream configured
  pub input_read : IsTextOf input text
  pub misconfigured : IsMisconfigured configured fault place

-- why a configuration's stream isn't read as text; the built-in router needs none
abbrev pub IsUnreadConfig : Option Stream → InputFault → Type 0
IsUnreadConfig None fault = ⊥
IsUnreadConfig (Some stream) fault = IsUnread stream fault

-- why a run has no text of this source
abbrev pub IsUnreadFor : Option Stream → Stream → Source → InputFault → Type 0
IsUnreadFor stream input sources.Config fault = IsUnreadConfig stream fault
IsUnreadFor stream input sources.Input fault = IsUnread input fault

-- Why a run ends before its first line, of which nothing is printed: one of the texts can't be read, the first gives no router, or there
-- is no memory to begin.
abbrev pub NeverSteps : Option Stream → Stream → RunEnding → Type 0
NeverSteps stream input (endings.Unread source fault) = IsUnreadFor stream input source fault
NeverSteps stream input endings.Memory = Unit {0}
NeverSteps stream input (endings.BadConfig fault place) = IsRefusedFor stream input fault place
NeverSteps stream input (endings.Ran ending) = ⊥

-- A run, in which lines are echoed or aren't. The texts of the configuration and of the input are read before all else.
-- Nothing is printed where one of them can't be read, where the first gives no router, or where there is no memory to begin.
abbrev pub Steps : Bool → Option Stream → Stream → List ℕ → RunEnding → Type 0
Steps echo stream input printed (endings.Ran ending) = RanLines echo stream input printed ending
Steps echo stream input printed (endings.Unread source fault) = (printed ≡ []) × IsUnreadFor stream input source fault
Steps echo stream input printed endings.Memory = printed ≡ []
Steps echo stream input printed (endings.BadConfig fault place) = (printed ≡ []) × IsRefusedFor stream input fault place

-- the name of a run's file; without one there is none
abbrev pub name_of : Option (List ℕ) → List ℕ
name_of None = []
name_of (Some name) = name

-- A run on the router of the file of this name, or without one on the built-in router. `opens` says which file a
-- name opens, `fails` why it may open none, `stream` what a file is read as. A file that isn't opened is unread.
abbrev pub StepsOnFile : {F : Type 0} → (List ℕ → F → Type 0) → (List ℕ → InputFault → Type 0) → (F → Stream) → Bool → Option (List ℕ) → Stream → List ℕ → RunEnding → Type 0
StepsOnFile opens fails stream echo None input printed ending = Steps echo None input printed ending
StepsOnFile {F} opens fails stream echo (Some name) input printed ending =
    ((file : F) × opens name file × Steps echo (Some (stream file)) input printed ending)
    ⊎ ((fault : InputFault) × fails name fault × (printed ≡ []) × (ending ≡ endings.Unread sources.Config fault))
