-- What `lsr serve` on a file says.
use Rattle.std.specs.Prelude.{◌≡◌, ◌+◌, ℕ, List, Option, Ok, length}
use Rattle.line_streams.specs.Texts.{Stream}
use Rattle.lsr_config.specs.Configs.{Setup}
use Rattle.lsr_config.specs.Reading.{IsRead}
use Rattle.lsr_config.specs.declared.sockets.LinkSockets.{LinkSockets}
use Rattle.lsr_serve.specs.Sockets.{GivesSockets}
use Rattle.lsr_serve.specs.Told.{Serves}
use Rattle.lsr_serve.specs.Turns.{AsksForTurns}
use Rattle.lsr_runs.specs.Playing.{IsFileText}

-- The text says this configuration, and gives its links these sockets.
pub record SaysRun (text : List ℕ) (config : Setup) (links : List (ℕ × LinkSockets)) : Type 0 where
  pub read : IsRead text (Ok config)
  pub given : GivesSockets text links

-- The router that is served is that of the text, by a port for each of its links and one for the clock.
pub record ServesText (text : List ℕ) (output printed : Option (List ℕ)) (status : ℕ) : Type 0 where
  pub config : Setup
  pub links : List (ℕ × LinkSockets)
  pub says : SaysRun text config links
  pub serves : Serves config (length links + 1) output printed status

-- The router that is served is that of the file of this name.
abbrev pub ServedFile : {F : Type 0} → (List ℕ → F → Type 0) → (F → Stream) → List ℕ → Option (List ℕ) → Option (List ℕ) → ℕ → Type 0
ServedFile opens stream name output printed status = (text : List ℕ) × IsFileText opens stream name text × ServesText text output printed status

-- A status of 0 says that the router of the file of this name was served, for a number of turns that the word asks for.
abbrev pub ServesFile : {F : Type 0} → (List ℕ → F → Type 0) → (F → Stream) → List ℕ → Option (List ℕ) → Option (List ℕ) → Option (List ℕ) → ℕ → Type 0
ServesFile opens stream name word output printed status =
    status ≡ 0 → (turns : ℕ) × AsksForTurns word turns × ServedFile opens stream name output printed status
