-- What is known after a command that isn't refused.
use Rattle.std.specs.Prelude.{option_to_list}
use Rattle.lsr_facts.specs.declared.router.Router.{Router}
use Rattle.abstract_paths.specs.declared.commands.Command.{Command}
use Rattle.abstract_paths.specs.Commands.{begun_by, commanded}
use Rattle.abstract_router.specs.States.{State, with_facts, without_held}

-- Of the LSP that the command has signalled neither reservation nor repair is known.
abbrev pub commanded_state : Router → State → Command → State
commanded_state r s c = without_held (option_to_list (begun_by r s.facts c)) (with_facts (commanded r s.facts c) s)
