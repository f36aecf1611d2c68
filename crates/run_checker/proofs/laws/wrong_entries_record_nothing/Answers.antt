use Rattle.run_checker.proofs.Telling.{wrong_nowhere}
use Rattle.run_checker.proofs.laws.wrong_entries_record_nothing.Goals as goal

pub returns : goal.returns
returns c = λ r before after e fault wrong x. wrong_nowhere r before e fault wrong after x
