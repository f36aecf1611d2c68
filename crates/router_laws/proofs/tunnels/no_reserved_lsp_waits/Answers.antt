-- A router is opened so, and each step keeps it so.
use Rattle.abstract_router.specs.Steps.{opening}
use Rattle.router_laws.proofs.Settled.{opening-settled, run-settled, step-settled}
use Rattle.router_laws.proofs.tunnels.no_reserved_lsp_waits.Goals as goal

pub returns-clause-opening : goal.returns-clause-opening
returns-clause-opening c = opening-settled

pub returns-clause-step : goal.returns-clause-step
returns-clause-step c r before after made rests x = step-settled r before made after rests x

pub returns-clause-run : goal.returns-clause-run
returns-clause-run c r routes tunnels bypasses run after ran = run-settled r (opening r routes tunnels bypasses) run after (opening-settled r routes tunnels bypasses) ran
