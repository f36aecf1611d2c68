-- All are bypasses just where those that are left are.
use Rattle.std.proofs.Common.{drop}
use Rattle.std.specs.List.{AllByRecursion}
use Rattle.std.specs.Prelude.{◌↔◌}
use Rattle.lsr_facts.specs.Bypasses.{IsBypass}
use Rattle.plain_soundness.proofs.tunnels.are_each_bypasses.Given as goal

abbrev pub invariant-loop-bypass : goal.invariant-loop-bypass
invariant-loop-bypass l = AllByRecursion (IsBypass l.router l.tunnels) (drop l.bypass-index l.bypasses) ↔ AllByRecursion (IsBypass l.router l.tunnels) l.bypasses
