-- What `lsr check` prints and tells of files of recorded runs, and its status.
use Rattle.std.specs.Prelude.{◌≡◌, ◌⊎◌, ℕ, List, [], ◌∷◌, ◌++◌, length, Option, Some}
use Rattle.abstract_router.specs.States.{State}
use Rattle.lsr_check.specs.Following.{IsFlawOf, LeadsTo, end_of}
use Rattle.lsr_check.specs.Telling.{run_line, stop_line, stop_text}
use Rattle.lsr_check.specs.declared.flaw.Stop.{Stop}
use Rattle.lsr_check.specs.declared.flaw.Stop.TheVariants as stops
use Rattle.lsr_check.specs.declared.recorded.Recorded.{Recorded}
use Rattle.lsr_check.specs.declared.recorded.RunEnd.{RunEnd}
use Rattle.lsr_check.specs.declared.recorded.Unread.{Unread}

-- The file of this name has a recorded run that begins where the one before it ended, and leads to a state.
pub record IsRunIn (spells : List ℕ → Recorded → Type 0) (before : Option RunEnd) (name : List ℕ) (run : Recorded) (state : State) : Type 0 where
  pub spelled : spells name run
  pub leads : LeadsTo before run state

-- why it has none: it has no recorded run, or something is wrong with the one that it has
abbrev pub StopsAt : (List ℕ → Recorded → Type 0) → (List ℕ → Unread → Type 0) → Option RunEnd → List ℕ → Stop → Type 0
StopsAt spells fails before name (stops.Unread unread) = fails name unread
StopsAt spells fails before name (stops.Flawed run flaw) = spells name run × IsFlawOf before run flaw

-- What is printed and told of files, one after the other: a line for each that is a run, and what ends the check, if anything does.
-- The status is 0 where they all are runs, else 1. `spells` says which recorded run the file of a name has, `fails` why it may have none.
abbrev pub Checks : (List ℕ → Recorded → Type 0) → (List ℕ → Unread → Type 0) → Option RunEnd → List (List ℕ) → List ℕ → List ℕ → ℕ → Type 0
Checks spells fails before [] printed told status = (printed ≡ []) × (told ≡ []) × (status ≡ 0)
Checks spells fails before (name ∷ names) printed told status =
    ((run : Recorded) × (state : State) × (more : List ℕ) × IsRunIn spells before name run state
    × (printed ≡ run_line (length run.entries) ++ more) × Checks spells fails (Some (end_of run state)) names more told status)
    ⊎ ((stop : Stop) × StopsAt spells fails before name stop × (printed ≡ stop_line stop) × (told ≡ stop_text name stop) × (status ≡ 1))
