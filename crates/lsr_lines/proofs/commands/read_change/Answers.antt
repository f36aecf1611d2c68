-- Where there is no memory for a change, the words say one.
use Rattle.std.proofs.Common.{subst, sym}
use Rattle.std.specs.Prelude.{OnErr}
use Rattle.abstract_paths.specs.declared.tunnels.TunnelChange.{TunnelChange}
use Rattle.lsr_lines.specs.Commands.{SaysChange}
use Rattle.lsr_lines.proofs.commands.read_change.Goals as goal

pub returns-clause-memory : goal.returns-clause-memory
returns-clause-memory c = subst (λ words. OnErr c.change_said.result ((x : TunnelChange) × SaysChange words x)) (sym c.in-Some.ensures) c.change_said.ensures.memory
