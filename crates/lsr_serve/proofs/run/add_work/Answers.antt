-- The work is put behind what was left.
use Rattle.lsr_serve.proofs.Owning.{put_own}
use Rattle.lsr_serve.proofs.run.add_work.Goals as goal

pub returns-clause-own : goal.returns-clause-own
returns-clause-own c = λ setup. put_own setup c.args.served.now _ c.args.work c.in_ok-append.ensures.items c.in_ok-append-2.ensures.items
