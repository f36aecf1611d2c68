use Rattle.std.proofs.Common.{[], subst, ◌∙◌}
use Rattle.std.proofs.lemmas.Result.{err_from_is_err_and}
use Rattle.lsr_config.specs.Documents.{each_record, known_rules}
use Rattle.lsr_config.specs.Reading.{IsFault}
use Rattle.lsr_config.proofs.Judging.{AreKept, all_taken, none_kept, one_more_kept, fault_there}
use Rattle.lsr_config.proofs.known.check_records.Goals as goal

pub loop-record-init : goal.loop-record-init
loop-record-init c = none_kept (λ before d. known_rules c.args.keys.now d)

pub returns-in_err-check_table : goal.returns-in_err-check_table
returns-in_err-check_table c =
    let p = err_from_is_err_and c.from_residual.result c.from_residual.ensures.1 in
    rw (p.1, p.2)
    (subst (λ ds. IsFault (each_record (λ before d. known_rules c.args.keys.now d) [] ds) c.in_err-check_table.field-0.0) c.records_at-record-items.ensures
    (fault_there (λ before d. known_rules c.args.keys.now d) c.records_at-record-items.result.now c.loop-record.record-index c.record-item.result _ c.loop-record-test.true c.record-item.is c.loop-record.invariant c.in_err-check_table.ensures))

pub loop-record-preserved : goal.loop-record-preserved
loop-record-preserved c =
    one_more_kept (λ before d. known_rules c.args.keys.now d) c.records_at-record-items.result.now c.loop-record.record-index c.record-item.result c.loop-record-test.true c.record-item.is c.loop-record.invariant c.in_ok-check_table.ensures.0

pub returns : goal.returns
returns c =
    (subst (AreKept (λ before d. known_rules c.args.keys.now d)) (all_taken c.records_at-record-items.result.now c.loop-record.record-index c.loop-record-test.false ∙ c.records_at-record-items.ensures) c.loop-record.invariant, tt)
