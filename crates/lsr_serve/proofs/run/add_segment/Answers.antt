-- All segments are there, in their order.
use Rattle.lsr_serve.proofs.Owning.{sorted_own}
use Rattle.lsr_serve.proofs.run.add_segment.Goals as goal

pub returns-clause-own : goal.returns-clause-own
returns-clause-own c = λ setup left last. record {
  receipts = left.receipts;
  segments = sorted_own setup c.args.served.now.segments.items c.push.new.self.items c.sort_segments.new.segments.items c.args.segment c.in_ok-push.ensures.items c.sort_segments.ensures left.segments last;
}
