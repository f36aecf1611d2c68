-- The words of the law on LSP IDs.
use Rattle.std.specs.Prelude.{◌≡◌, ◌≢◌, ℕ, Some}
use Rattle.lsr_facts.specs.declared.key.Key.{Key}
use Rattle.lsr_facts.specs.declared.reply.Reply.TheVariants as replies
use Rattle.lsr_facts.specs.declared.router.Router.{Router}
use Rattle.abstract_paths.specs.Commands.{begun_by}
use Rattle.abstract_paths.specs.declared.commands.Command.{Command}
use Rattle.abstract_paths.specs.declared.commands.Command.TheVariants.{DropTunnel}
use Rattle.abstract_paths.specs.declared.events.Event.TheVariants as events
use Rattle.abstract_paths.specs.declared.events.Made.{Made}
use Rattle.abstract_router.specs.States.{State}

-- an LSP is begun: a command that signals it is done
pub record Begins (r : Router) (before : State) (made : Made) (key : Key) : Type 0 where
  pub command : Command
  pub event : made.event ≡ events.Command command
  pub is_done : made.reply ≡ replies.Done
  pub begun : begun_by r before.facts command ≡ Some key

-- what happened doesn't drop the tunnel of this number
abbrev pub IsNoDrop : ℕ → Made → Type 0
IsNoDrop number made = made.event ≢ events.Command (DropTunnel number)
