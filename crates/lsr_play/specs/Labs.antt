-- What is printed while a world is played with `--lab`, and what becomes of the world.
use Rattle.std.specs.Prelude.{◌≡◌, ◌⊎◌, ℕ, zero, suc, true, List, [], ◌∷◌, ◌++◌, Option, Some, None, codes, flat_map}
use Rattle.std.specs.Io.KnownBytes.{Appends}
use Rattle.router_core.specs.States.{RouterState}
use Rattle.abstract_world.specs.Worlds.{WorldState, at}
use Rattle.abstract_world.specs.declared.moves.Move.{Move}
use Rattle.lab_world.specs.Opening.{CanOpen}
use Rattle.line_streams.specs.Cuts.{lines_of}
use Rattle.lsr_config.specs.Configs.{Setup}
use Rattle.lsr_facts.specs.declared.refusal.Refusal.TheVariants.{NoRouter}
use Rattle.lsr_lines.specs.Steps.{is_remark}
use Rattle.lsr_lines.specs.declared.shown.Shown.{Shown}
use Rattle.lsr_session.specs.Requests.{Shows}
use Rattle.lsr_text.specs.Answers.{refusal_line}
use Rattle.lsr_play.specs.Chosen.{chosen_line}
use Rattle.lsr_play.specs.Declaring.{Declaration, Declares, nothing, place_of}
use Rattle.lsr_play.specs.Making.{DeliversFrame, MakesMove}
use Rattle.lsr_play.specs.Playing.{configured, world_of}
use denote.Ref.{Bor}

-- the lines of a text, with a name before each
abbrev pub named_text : List ℕ → List (List ℕ) → List ℕ
named_text name lines = flat_map (λ line. name ++ (codes " " ++ (line ++ codes "\n"))) lines

-- the router of this name shows what it is asked for; it is refused where there is none
abbrev pub ShowsNamed : Option RouterState → List ℕ → Shown → List ℕ → Type 0
ShowsNamed None name shown printed = printed ≡ refusal_line NoRouter
ShowsNamed (Some router) name shown printed = (text : List ℕ) × Shows router [] shown text × (printed ≡ named_text name (lines_of text))

-- A move of chance is made: the line that says it is printed, and then what it is answered.
abbrev pub MakesChosen : List (Bor (List ℕ)) → WorldState → List ℕ → WorldState → Type 0
MakesChosen names before printed after =
    (one : Move) × (text : List ℕ) × (printed ≡ chosen_line names one ++ text) × MakesMove names before one text after

-- a router shows what it knows, and the world stays as it is
abbrev pub LabShows : List (Bor (List ℕ)) → WorldState → List ℕ → WorldState → Type 0
LabShows names before printed after =
    (name : List ℕ) × (shown : Shown) × ShowsNamed (at before (place_of names name)) name shown printed × (after ≡ before)

-- What is done in a world: a move that a line says is made; or one of chance; or a frame is delivered that wasn't; or a router shows
-- what it knows.
abbrev pub LabAct : List (Bor (List ℕ)) → WorldState → List ℕ → WorldState → Type 0
LabAct names before printed after =
    ((one : Move) × MakesMove names before one printed after)
    ⊎ (MakesChosen names before printed after
    ⊎ (((number : ℕ) × DeliversFrame names before number printed after)
    ⊎ LabShows names before printed after))

-- so many such acts, one after the other
abbrev pub LabActs : List (Bor (List ℕ)) → ℕ → WorldState → List ℕ → WorldState → Type 0
LabActs names zero before printed after = (printed ≡ []) × (after ≡ before)
LabActs names (suc count) before printed after =
    (first : List ℕ) × (rest : List ℕ) × (between : WorldState) × (printed ≡ first ++ rest) × LabAct names before first between
    × LabActs names count between rest after

-- What is printed from one state of the output to another is what such acts print, which lead from one world to another.
pub record LabTells (names : List (Bor (List ℕ))) (before : WorldState) (old new : Option (List ℕ)) (after : WorldState) : Type 0 where
  pub printed : List ℕ
  pub told : Appends old new printed
  pub count : ℕ
  pub acts : LabActs names count before printed after

-- a line that is a remark, and passed over, or that declares something
abbrev pub PassesOrDeclares : Declaration → List ℕ → Declaration → Type 0
PassesOrDeclares before line after = ((is_remark line ≡ true) × (after ≡ before)) ⊎ Declares before line after

-- such lines, one after the other
abbrev pub AreDeclaredAmong : Declaration → List (List ℕ) → Declaration → Type 0
AreDeclaredAmong before [] after = after ≡ before
AreDeclaredAmong before (line ∷ more) after =
    (between : Declaration) × PassesOrDeclares before line between × AreDeclaredAmong between more after

-- What is printed in the world of what was declared: what such acts print; or nothing, where there may be no such world.
abbrev pub PrintsLab : List Setup → Declaration → List ℕ → Type 0
PrintsLab configs d printed =
    (printed ≡ [])
    ⊎ (CanOpen (configured configs d) d.joints × ((count : ℕ) × (after : WorldState) × LabActs d.names count (world_of configs d) printed after))

-- What is printed of the lines of a world's file, of whose routers these are the configurations: the first lines declare a world, and
-- remarks are passed over among them.
abbrev pub PlaysLab : List Setup → List (List ℕ) → List ℕ → Type 0
PlaysLab configs lines printed =
    (declaring : List (List ℕ)) × (moving : List (List ℕ)) × (d : Declaration) × (lines ≡ declaring ++ moving)
    × AreDeclaredAmong nothing declaring d × PrintsLab configs d printed
