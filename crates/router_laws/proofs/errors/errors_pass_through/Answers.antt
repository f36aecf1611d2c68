-- What leaves the state as it was sends its errors, and nothing else.
use Rattle.router_laws.proofs.ErrorsOn.{path_err_passes, returned_err_passes}
use Rattle.router_laws.proofs.ResvErrsOn.{resv_err_alone, resv_err_goes_on}
use Rattle.router_laws.proofs.errors.errors_pass_through.Goals as goal

pub returns-clause-path_errs : goal.returns-clause-path_errs
returns-clause-path_errs c = path_err_passes

pub returns-clause-returned : goal.returns-clause-returned
returns-clause-returned c = returned_err_passes

pub returns-clause-resv_errs : goal.returns-clause-resv_errs
returns-clause-resv_errs c = resv_err_goes_on

pub returns-clause-no_others : goal.returns-clause-no_others
returns-clause-no_others c = resv_err_alone
