-- What `lsr play` prints and tells, and its status.
use Rattle.std.specs.Prelude.{◌≡◌, ◌⊎◌, ℕ, List, [], ◌∷◌, ◌++◌, Option, Ok, codes, length}
use Rattle.std.specs.Io.KnownBytes.{Appends}
use Rattle.lsr_config.specs.Configs.{Setup}
use Rattle.lsr_config.specs.Reading.{IsRead}
use Rattle.line_streams.specs.Cuts.{lines_of}
use Rattle.line_streams.specs.Texts.{IsTextOf, IsUnread, Stream}
use Rattle.line_streams.specs.declared.input.InputFault.{InputFault}
use Rattle.lsr_play.specs.Endings.{play_ending_text, play_status}
use Rattle.lsr_play.specs.Playing.{Plays}
use Rattle.lsr_play.specs.declared.endings.PlayEnding.{PlayEnding}
use Rattle.world_lines.specs.Named.{files_of}
use Rattle.lsr_runs.specs.Endings.{ending_text}
use Rattle.lsr_runs.specs.Sessions.{IsMisconfigured}
use Rattle.lsr_runs.specs.declared.endings.RunEnding.{RunEnding}
use Rattle.lsr_runs.specs.declared.endings.RunEnding.TheVariants as endings
use Rattle.lsr_runs.specs.declared.endings.Source.TheVariants as sources

-- The text of the file of this name. `opens` says which file a name opens, `stream` what a file is read as.
abbrev pub IsFileText : {F : Type 0} → (List ℕ → F → Type 0) → (F → Stream) → List ℕ → List ℕ → Type 0
IsFileText {F} opens stream name text = (file : F) × opens name file × IsTextOf (stream file) text

-- why there is none: no file is opened, for what `fails` says, or it isn't read
abbrev pub IsTextless : {F : Type 0} → (List ℕ → F → Type 0) → (List ℕ → InputFault → Type 0) → (F → Stream) → List ℕ → InputFault → Type 0
IsTextless {F} opens fails stream name fault = ((file : F) × opens name file × IsUnread (stream file) fault) ⊎ fails name fault

-- the texts of files, in order
abbrev pub AreTexts : {F : Type 0} → (List ℕ → F → Type 0) → (F → Stream) → List (List ℕ) → List (List ℕ) → Type 0
AreTexts opens stream [] [] = Unit {0}
AreTexts opens stream (name ∷ names) (text ∷ texts) = IsFileText opens stream name text × AreTexts opens stream names texts
AreTexts opens stream names texts = ⊥

-- the configurations that texts say, in order
abbrev pub AreSaid : List (List ℕ) → List Setup → Type 0
AreSaid [] [] = Unit {0}
AreSaid (text ∷ texts) (config ∷ configs) = IsRead text (Ok config) × AreSaid texts configs
AreSaid texts configs = ⊥

-- The first of the files that has no text, for this fault: those before it have some.
pub record IsFirstTextless {F : Type 0} (opens : List ℕ → F → Type 0) (fails : List ℕ → InputFault → Type 0) (stream : F → Stream) (names : List (List ℕ)) (name : List ℕ) (fault : InputFault) : Type 0 where
  pub before : List (List ℕ)
  pub texts : List (List ℕ)
  pub after : List (List ℕ)
  pub parts : names ≡ before ++ (name ∷ after)
  pub read : AreTexts opens stream before texts
  pub textless : IsTextless opens fails stream name fault

-- Of texts of files this is the first one that gives no router, for this fault at this place; or memory ran out.
abbrev pub IsFirstSaidFault : List (List ℕ) → List (List ℕ) → List ℕ → RunEnding → Type 0
IsFirstSaidFault names texts name (endings.BadConfig fault place) =
    (before : List (List ℕ)) × (after : List (List ℕ)) × (said : List (List ℕ)) × (unsaid : List (List ℕ)) × (text : List ℕ) × (configs : List Setup)
    × (names ≡ before ++ (name ∷ after)) × (texts ≡ said ++ (text ∷ unsaid)) × (length before ≡ length said)
    × AreSaid said configs × IsMisconfigured text fault place
IsFirstSaidFault names texts name endings.Memory = Unit {0}
IsFirstSaidFault names texts name ending = ⊥

-- Why a world's lines aren't played whose routers have these files: what is wrong with the one of this name, or that memory ran out.
abbrev pub StopsFor : {F : Type 0} → (List ℕ → F → Type 0) → (List ℕ → InputFault → Type 0) → (F → Stream) → List (List ℕ) → List ℕ → RunEnding → Type 0
StopsFor opens fails stream names name (endings.Unread sources.Config fault) = IsFirstTextless opens fails stream names name fault
StopsFor opens fails stream names name (endings.BadConfig fault place) =
    (texts : List (List ℕ)) × AreTexts opens stream names texts × IsFirstSaidFault names texts name (endings.BadConfig fault place)
StopsFor opens fails stream names name endings.Memory = Unit {0}
StopsFor opens fails stream names name ending = ⊥

-- whose configuration has a fault
abbrev pub whose_text : List ℕ → RunEnding → List ℕ
whose_text name (endings.BadConfig fault place) = codes "  in " ++ (name ++ codes "\n")
whose_text name ending = []

-- what is told of why lines aren't played
abbrev pub stop_text : List ℕ → RunEnding → List ℕ
stop_text name ending = ending_text name ending ++ whose_text name ending

-- They aren't played: nothing is printed, and why is told.
abbrev pub Stops : {F : Type 0} → (List ℕ → F → Type 0) → (List ℕ → InputFault → Type 0) → (F → Stream) → List (List ℕ) → Option (List ℕ) → Option (List ℕ) → Option (List ℕ) → Option (List ℕ) → ℕ → Type 0
Stops opens fails stream names output printed error told status =
    (name : List ℕ) × (ending : RunEnding) × StopsFor opens fails stream names name ending × (status ≡ 1) × (printed ≡ output)
    × Appends error told (stop_text name ending)

-- The lines of a world's file are played, of whose routers these are the configurations: what they print is printed, and how that ended
-- told.
abbrev pub PlaysLines : List Setup → List (List ℕ) → Option (List ℕ) → Option (List ℕ) → Option (List ℕ) → Option (List ℕ) → ℕ → Type 0
PlaysLines configs lines output printed error told status =
    (ending : PlayEnding) × (text : List ℕ) × Plays configs lines text ending × (status ≡ play_status ending)
    × Appends output printed text × Appends error told (play_ending_text ending)

-- The text of a world's file is played: the files that its lines name are read, and their configurations looked at, and then its
-- lines are played; or one of the files stops that.
abbrev pub PlaysText : {F : Type 0} → (List ℕ → F → Type 0) → (List ℕ → InputFault → Type 0) → (F → Stream) → List ℕ → Option (List ℕ) → Option (List ℕ) → Option (List ℕ) → Option (List ℕ) → ℕ → Type 0
PlaysText opens fails stream text output printed error told status =
    Stops opens fails stream (files_of (lines_of text)) output printed error told status
    ⊎ ((texts : List (List ℕ)) × (configs : List Setup) × AreTexts opens stream (files_of (lines_of text)) texts × AreSaid texts configs
    × PlaysLines configs (lines_of text) output printed error told status)

-- The world of the file of this name is played. A file that isn't opened is unread.
abbrev pub PlaysFile : {F : Type 0} → (List ℕ → F → Type 0) → (List ℕ → InputFault → Type 0) → (F → Stream) → List ℕ → Option (List ℕ) → Option (List ℕ) → Option (List ℕ) → Option (List ℕ) → ℕ → Type 0
PlaysFile opens fails stream name output printed error told status =
    ((fault : InputFault) × IsTextless opens fails stream name fault × (status ≡ 1) × (printed ≡ output)
    × Appends error told (ending_text name (endings.Unread sources.Config fault)))
    ⊎ ((text : List ℕ) × IsFileText opens stream name text × PlaysText opens fails stream text output printed error told status)
