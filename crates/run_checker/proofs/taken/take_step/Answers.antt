-- A start and a restart give no label.
use Rattle.std.proofs.Common.{subst}
use Rattle.abstract_paths.specs.declared.events.Event.TheVariants as events
use Rattle.event_fields.specs.Spelled.{SpellsEvent}
use Rattle.run_checker.proofs.Steps.{restarts, starts}
use Rattle.run_checker.proofs.taken.take_step.Goals as goal

pub returns-in-Start-clause-wrong : goal.returns-in-Start-clause-wrong
returns-in-Start-clause-wrong c =
    let r = c.args.router.now in
    let s = c.args.state.now in
    c.quiet_step.ensures.wrong r s events.Start (subst (SpellsEvent c.args.entry.now.event) c.in-Start.is c.requires.spelled) (starts r s c.if-state.true)

pub returns-in-Restart-clause-wrong : goal.returns-in-Restart-clause-wrong
returns-in-Restart-clause-wrong c =
    let r = c.args.router.now in
    let s = c.args.state.now in
    c.quiet_step-in-Restart.ensures.wrong r s events.Restart (subst (SpellsEvent c.args.entry.now.event) c.in-Restart.is c.requires.spelled) (restarts r s c.if-state.false)
