-- What is written is read as the same stack.
use Rattle.label_stacks.proofs.Again.{read_again}
use Rattle.label_stacks.proofs.writing.write_stack.Goals as goal

pub returns-in_err-extend_from_slice-clause-again : goal.returns-in_err-extend_from_slice-clause-again
returns-in_err-extend_from_slice-clause-again c = read_again c.args.stack.now c.as_slice-rest.ensures.fits.entries

pub returns-clause-again : goal.returns-clause-again
returns-clause-again c = read_again c.args.stack.now c.as_slice-rest.ensures.fits.entries
