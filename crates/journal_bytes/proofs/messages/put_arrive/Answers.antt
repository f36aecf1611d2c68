-- What it was read as stands after its link and its way.
use Rattle.std.proofs.lemmas.Result.{on_ok_weaker}
use Rattle.journal_bytes.specs.Events.{reading_bytes}
use Rattle.journal_bytes.proofs.Lengths.{two_parts}
use Rattle.journal_bytes.proofs.messages.put_arrive.Goals as goal

pub returns : goal.returns
returns c =
    record {
      ok = on_ok_weaker c.put_reading.result (two_parts c.args.out.now.items _ _ _ (reading_bytes c.args.arrive.now.reading) c.in_ok-put_arrival.ensures.ok) c.put_reading.ensures.ok;
      again = c.put_reading.ensures.again;
    }
