-- The parts of commands.
use Rattle.std.specs.Prelude.{◌≡◌, ◌∷◌, ℕ, List, refl}
use Rattle.field_bytes.specs.Making.{IsToldApart, told_by}
use Rattle.field_bytes.specs.declared.cases.OneOf.{OneOf}
use Rattle.field_bytes.specs.declared.cases.OneOf.TheVariants.{This, Other}
use Rattle.rsvp_bodies.specs.declared.prefix.Prefix.{Prefix}
use Rattle.abstract_paths.specs.declared.tunnels.NewTunnel.{NewTunnel}
use Rattle.abstract_paths.specs.declared.tunnels.TunnelChange.{TunnelChange}
use Rattle.abstract_paths.specs.declared.tunnels.NewBypass.{NewBypass}
use Rattle.abstract_paths.specs.declared.commands.Command.{Command}
use Rattle.abstract_paths.specs.declared.commands.Command.TheVariants as commands
use Rattle.journal_bytes.specs.Events.{command_code, command_fields}

-- A command's bytes: its code, and what the code says.
abbrev pub command_bytes : Command → List ℕ
command_bytes command = command_code command ∷ command_fields command

-- what the codes say, by halves
abbrev pub CommandParts : Type 0
CommandParts = OneOf (OneOf (OneOf NewTunnel TunnelChange) (OneOf ℕ ℕ)) (OneOf (OneOf NewBypass ℕ) (OneOf (Prefix × ℕ) Prefix))

abbrev pub command_parts : Command → CommandParts
command_parts (commands.AddTunnel tunnel) = This (This (This tunnel))
command_parts (commands.ChangeTunnel change) = This (This (Other change))
command_parts (commands.CancelChange number) = This (Other (This number))
command_parts (commands.DropTunnel number) = This (Other (Other number))
command_parts (commands.AddBypass bypass) = Other (This (This bypass))
command_parts (commands.DropBypass number) = Other (This (Other number))
command_parts (commands.AddRoute prefix link) = Other (Other (This (prefix, link)))
command_parts (commands.DropRoute prefix) = Other (Other (Other prefix))

-- any command may be told
abbrev pub AnyCommand : Command → Type 0
AnyCommand c = Unit {0}

-- the command of these
abbrev pub command_of : CommandParts → Command
command_of (This (This (This tunnel))) = commands.AddTunnel tunnel
command_of (This (This (Other change))) = commands.ChangeTunnel change
command_of (This (Other (This number))) = commands.CancelChange number
command_of (This (Other (Other number))) = commands.DropTunnel number
command_of (Other (This (This bypass))) = commands.AddBypass bypass
command_of (Other (This (Other number))) = commands.DropBypass number
command_of (Other (Other (This row))) = commands.AddRoute row.0 row.1
command_of (Other (Other (Other prefix))) = commands.DropRoute prefix

command_again : (command : Command) → command_of (command_parts command) ≡ command
command_again (commands.AddTunnel tunnel) = refl
command_again (commands.ChangeTunnel change) = refl
command_again (commands.CancelChange number) = refl
command_again (commands.DropTunnel number) = refl
command_again (commands.AddBypass bypass) = refl
command_again (commands.DropBypass number) = refl
command_again (commands.AddRoute prefix link) = refl
command_again (commands.DropRoute prefix) = refl

pub command_told : IsToldApart AnyCommand command_parts
command_told = told_by AnyCommand command_parts command_of command_again
