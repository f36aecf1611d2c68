use Rattle.run_checker.proofs.Keeping.{kept_run, kept_step}
use Rattle.run_checker.proofs.laws.journal_entries_are_recorded.Goals as goal

pub returns-clause-step : goal.returns-clause-step
returns-clause-step c = λ r before after made e step of again. kept_step r before after made e step of again

pub returns-clause-run : goal.returns-clause-run
returns-clause-run c = λ r before after made entries run kept. kept_run r before after made entries run kept
