-- What lines say that are taken beside those of a world's file.
use Rattle.std.specs.Prelude.{◌≡◌, ◌≤◌, ℕ, List, [], ◌∷◌, ◌++◌, true, codes, length}
use Rattle.lsr_lines.specs.Commands.{BeginsWith, words_of}
use Rattle.lsr_lines.specs.Lines.{AsksToSee}
use Rattle.lsr_lines.specs.Numbers.{NamesWhole}
use Rattle.lsr_lines.specs.Steps.{is_remark}
use Rattle.lsr_play.specs.declared.lab_lines.LabLine.{LabLine}
use Rattle.lsr_play.specs.declared.lab_lines.LabLine.TheVariants as lines

-- `NAME WHAT`, where `show WHAT` asks to be shown something
abbrev pub SaysShow : List (List ℕ) → LabLine → Type 0
SaysShow words (lines.Show name shown) =
    (what : List ℕ) × (words ≡ name.now ∷ words_of what) × (1 ≤ length name.now) × AsksToSee (codes "show " ++ what) shown
SaysShow words asked = ⊥

-- `N MOVES`, two numbers of 64 bits
abbrev pub SaysSeed : List (List ℕ) → LabLine → Type 0
SaysSeed words (lines.Seed seed moves) =
    (first : List ℕ) × (second : List ℕ) × (words ≡ first ∷ second ∷ []) × NamesWhole first seed × NamesWhole second moves
SaysSeed words asked = ⊥

-- What a line says: it is a remark, `run`, `show NAME WHAT` or `seed N MOVES`.
abbrev pub SaysLab : List ℕ → LabLine → Type 0
SaysLab line lines.Remark = is_remark line ≡ true
SaysLab line lines.Run = line ≡ codes "run"
SaysLab line (lines.Show name shown) = BeginsWith (codes "show") (λ others. SaysShow others (lines.Show name shown)) (words_of line)
SaysLab line (lines.Seed seed moves) = BeginsWith (codes "seed") (λ others. SaysSeed others (lines.Seed seed moves)) (words_of line)
