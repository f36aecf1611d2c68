use Rattle.run_checker.proofs.Telling.{recorded_one}
use Rattle.run_checker.proofs.laws.one_step_is_recorded.Goals as goal

pub returns : goal.returns
returns c = λ r before a b e x y. recorded_one r before e a b x y
