use Rattle.datagrams.proofs.Read.{message_dropped}
use Rattle.datagrams.proofs.reading.read_for_this.Goals as goal

pub returns-in-Err : goal.returns-in-Err
returns-in-Err c =
    message_dropped c.args.link c.args.way c.args.bytes.now c.in-Err.fault c.refusal_for.result c.in-Err.ensures.reads c.refusal_for.ensures
