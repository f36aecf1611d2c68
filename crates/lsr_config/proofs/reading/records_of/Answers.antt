use Rattle.std.proofs.Common.{sym}
use Rattle.lsr_config.proofs.Judging.{records_absent, records_judged}
use Rattle.lsr_config.proofs.reading.records_of.Goals as goal

pub returns-in-Some : goal.returns-in-Some
returns-in-Some c = records_judged c.args.key _ _ _ _ (sym c.in-Some.ensures) c.tables_in.ensures c.said.ensures

pub returns-in-None : goal.returns-in-None
returns-in-None c = records_absent c.args.key _ (sym c.in-None.ensures)
