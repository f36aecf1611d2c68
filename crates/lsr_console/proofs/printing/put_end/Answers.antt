-- What is printed stays printed as it is flushed.
use Rattle.std.proofs.Common.{◌∙◌}
use Rattle.lsr_console.specs.Consoles.{end_mark}
use Rattle.lsr_console.proofs.Written.{flushed}
use Rattle.lsr_console.proofs.printing.put_end.Goals as goal

pub returns : goal.returns
returns g c = flushed c.flush.result _ _ _ (end_mark c.args.marks) (rw (c.as_bytes.ensures.value ∙ c.end_mark.ensures) at c.in_ok-write_all.ensures.bytes) c.flush.ensures.bytes
