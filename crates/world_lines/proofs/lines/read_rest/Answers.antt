-- A tunnel that a line brings, or a change of one, is a command.
use Rattle.std.proofs.Common.{List, ℕ, Option, Bor, subst, sym}
use Rattle.std.proofs.lemmas.Result.{on_err_weaker}
use Rattle.std.specs.Result.{OnErr}
use Rattle.abstract_paths.specs.declared.commands.Command.{Command}
use Rattle.lsr_lines.specs.Commands.{SaysCommand, words_left}
use Rattle.world_lines.proofs.LineLaws.{commanded}
use Rattle.world_lines.proofs.lines.read_rest.Goals as goal

pub returns-in-Some-clause-memory : goal.returns-in-Some-clause-memory
returns-in-Some-clause-memory c =
    subst (λ (left : Option (Bor (List ℕ))). OnErr c.read_command.result ((command : Command) × SaysCommand (words_left left) command)) (sym c.in-Some.is)
    (on_err_weaker c.read_command.result (commanded c.in-Some.rest.now) c.read_command.ensures.memory)
