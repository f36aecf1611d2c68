-- The mark is printed behind what is told.
use Rattle.lsr_console.specs.Consoles.{end_mark}
use Rattle.lsr_console.proofs.Written.{ended}
use Rattle.lsr_console.proofs.printing.put_untext.Goals as goal

pub returns : goal.returns
returns g c = ended c.put_end.result _ _ _ _ (end_mark c.args.marks) c.in_ok-tell_input_fault.ensures c.put_end.ensures
