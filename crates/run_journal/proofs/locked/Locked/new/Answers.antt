-- The router of a configuration is opened with what that says.
use Rattle.std.proofs.Common.{refl, subst, sym}
use Rattle.router_core.specs.States.{RouterState}
use Rattle.run_journal.specs.Journals.{IsOpening}
use Rattle.run_journal.proofs.locked.Locked.new.Given.{Over}
use Rattle.run_journal.proofs.locked.Locked.new.Goals as goal

pub over-requires-clause-opening : goal.over-requires-clause-opening
over-requires-clause-opening g c =
    subst (λ (s : RouterState). IsOpening s.router s.state) (sym c.in_ok-machine.ensures.opened) (c.args.config.routes, c.args.config.tunnels, c.args.config.bypasses, refl)
