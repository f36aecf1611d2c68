-- One entry more; and what stops at one.
use Rattle.std.specs.Prelude.{◌<◌, ◌≤◌, Ok, Err, Result, length}
use Rattle.std.proofs.Common.{ap, arith, subst, sym}
use Rattle.abstract_router.specs.Soundness.{IsSound}
use Rattle.abstract_router.specs.States.{State}
use Rattle.run_checker.specs.Faulty.{IsRunFault}
use Rattle.run_checker.specs.Recorded.{IsRecorded}
use Rattle.run_checker.specs.declared.fault.RunFault.{RunFault}
use Rattle.run_checker.proofs.Leading.{led_only, one_more}
use Rattle.run_checker.proofs.Refusing.{no_run, run_fault}
use Rattle.run_checker.proofs.Telling.{recorded_one, recorded_sound}
use Rattle.run_checker.proofs.run.run_from.Goals as goal

pub returns-in-Err-clause-fault : goal.returns-in-Err-clause-fault
returns-in-Err-clause-fault c =
    let r = c.args.router.now in
    let within : c.loop-i.i < length c.args.entries.now = omega arith in
    subst (IsRunFault r c.args.base c.args.entries.now) (sym c.at.ensures)
    (run_fault r c.args.base c.args.entries.now c.loop-i.i c.loop-i.state c.index-entries-i.result within c.index-entries-i.is c.loop-i.invariant c.requires.sound c.in-Err.stop c.in-Err.ensures.wrong)

pub returns-in-Err-clause-accepted : goal.returns-in-Err-clause-accepted
returns-in-Err-clause-accepted c = λ end run other.
    let r = c.args.router.now in
    let within : c.loop-i.i < length c.args.entries.now = omega arith in
    let result : Result State RunFault = Err c.at.result in
    no_run r c.args.base c.args.entries.now c.loop-i.i c.loop-i.state c.index-entries-i.result within c.index-entries-i.is c.loop-i.invariant result c.in-Err.stop
    (ap (λ (fault : RunFault). let result : Result State RunFault = Err fault in result) c.at.ensures) c.in-Err.ensures.wrong end run other

pub loop-i-preserved : goal.loop-i-preserved
loop-i-preserved c =
    let r = c.args.router.now in
    let entry = c.index-entries-i.result in
    let s = c.loop-i.state in
    let within : c.loop-i.i < length c.args.entries.now = omega arith in
    one_more (IsRecorded r) (IsSound r) c.args.base c.args.entries.now c.loop-i.i s entry c.in-Ok.after within c.index-entries-i.is c.in-Ok.ensures.recorded
    (recorded_sound r s entry c.in-Ok.after c.requires.router c.loop-i.invariant.kept c.in-Ok.ensures.recorded)
    (λ other x. recorded_one r s entry other c.in-Ok.after x c.in-Ok.ensures.recorded) c.loop-i.invariant

pub returns-clause-accepted : goal.returns-clause-accepted
returns-clause-accepted c = λ end run other.
    let r = c.args.router.now in
    let past : length c.args.entries.now ≤ c.loop-i.i = omega arith in
    let same = led_only (IsRecorded r) (IsSound r) c.args.base c.args.entries.now c.loop-i.i c.loop-i.state past c.loop-i.invariant end run in
    ap (λ (state : State). let result : Result State RunFault = Ok state in result) (sym same)
