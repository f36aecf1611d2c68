-- Nothing was fed.
use Rattle.lsr_console.proofs.Attended.{rests}
use Rattle.lsr_console.proofs.attending.fed_nothing.Goals as goal

pub returns : goal.returns
returns g c = rests g.L.CoreName.config c.args.work.now c.args.port.now.mark c.args.port.now.taken c.requires
