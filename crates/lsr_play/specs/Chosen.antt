-- The lines of moves that are chosen, and not told.
use Rattle.std.specs.Prelude.{ℕ, List, [], ◌++◌, codes}
use Rattle.std.specs.Fmt.{decimal}
use Rattle.abstract_world.specs.declared.moves.Move.{Move}
use Rattle.abstract_world.specs.declared.moves.Move.TheVariants as moves
use Rattle.lsr_play.specs.Declaring.{name_at}
use denote.Ref.{Bor}

-- `> ` before the line that says the move: none for an operator's command
abbrev pub chosen_line : List (Bor (List ℕ)) → Move → List ℕ
chosen_line names (moves.Deliver number) = codes "> deliver " ++ (decimal number ++ codes "\n")
chosen_line names (moves.Repeat number) = codes "> repeat " ++ (decimal number ++ codes "\n")
chosen_line names (moves.Tick router moment) = codes "> tick " ++ (name_at names router ++ (codes " " ++ (decimal moment ++ codes "\n")))
chosen_line names (moves.LinkUp router link) = codes "> up " ++ (name_at names router ++ (codes " " ++ (decimal link ++ codes "\n")))
chosen_line names (moves.LinkDown router link) = codes "> down " ++ (name_at names router ++ (codes " " ++ (decimal link ++ codes "\n")))
chosen_line names (moves.Restart router) = codes "> restart " ++ (name_at names router ++ codes "\n")
chosen_line names (moves.Command router command) = []
