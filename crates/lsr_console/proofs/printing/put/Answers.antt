-- The mark is printed behind the text.
use Rattle.lsr_console.specs.Consoles.{end_mark}
use Rattle.lsr_console.proofs.Written.{ended}
use Rattle.lsr_console.proofs.printing.put.Goals as goal

pub returns : goal.returns
returns g c = ended c.put_end.result _ _ _ c.args.text.now (end_mark c.args.marks) (rw c.as_bytes.ensures.value at c.in_ok-write_all.ensures.bytes) c.put_end.ensures
