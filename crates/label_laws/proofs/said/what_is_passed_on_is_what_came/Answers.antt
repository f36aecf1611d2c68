-- Errors, tears and what is wanted are this router's own.
use Rattle.label_laws.proofs.Passing.{all_passed}
use Rattle.label_laws.proofs.said.what_is_passed_on_is_what_came.Goals as goal

pub returns : goal.returns
returns c = all_passed
