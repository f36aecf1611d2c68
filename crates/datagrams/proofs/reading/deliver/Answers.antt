use Rattle.datagrams.proofs.Read.{message_delivered}
use Rattle.datagrams.proofs.reading.deliver.Goals as goal

pub returns-in-Message : goal.returns-in-Message
returns-in-Message c =
    message_delivered c.args.link c.args.payload c.in-Message.content c.as_slice.result.now c.read_for_this.result c.in-Message.is c.as_slice.ensures.bytes c.read_for_this.ensures
