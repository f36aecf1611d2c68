use Rattle.run_checker.proofs.Refusing.{run_faultless}
use Rattle.run_checker.proofs.laws.runs_are_faultless.Goals as goal

pub returns : goal.returns
returns c = λ r base end entries sound run. run_faultless r base end entries sound run
