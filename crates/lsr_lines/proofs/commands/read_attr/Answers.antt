-- Where there is no memory for the name, the words say attributes.
use Rattle.std.proofs.Common.{rules, refl, None}
use Rattle.lsr_lines.proofs.LineLaws.{for_error}
use Rattle.lsr_lines.proofs.commands.read_attr.Goals as goal

pub returns-in_err-copy_of-clause-memory : goal.returns-in_err-copy_of-clause-memory
returns-in_err-copy_of-clause-memory c = for_error c.from_residual.result (
  record { affinities = None; setup = c.in-Some.setup; hold = c.in-Some-read_up_to.hold; flags = c.in-Some-read_flags.flags; name = c.args.words.now.name.now },
  record { no_affinities = refl; setup_priority = c.in-Some.ensures; hold_priority = c.in-Some-read_up_to.ensures; flags_set = c.in-Some-read_flags.ensures; called = refl; some = search rules; short = search rules; no_return = search rules },
)
