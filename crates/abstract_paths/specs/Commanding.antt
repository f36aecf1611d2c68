-- What an operator tells a router.
use Rattle.std.specs.Prelude.{Bool, true, false}
use Rattle.abstract_paths.specs.declared.commands.Command.{Command}
use Rattle.abstract_paths.specs.declared.commands.Command.TheVariants as commands

-- the command has the route of a tunnel
abbrev pub has_route : Command → Bool
has_route (commands.AddTunnel tunnel) = true
has_route (commands.ChangeTunnel change) = true
has_route command = false
