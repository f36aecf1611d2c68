use Rattle.std.proofs.Common.{◌≡◌, true}
use Rattle.abstract_paths.specs.Places.{is_own}
use Rattle.datagrams.proofs.Read.{message_is_own}
use Rattle.datagrams.proofs.reading.routed.Goals as goal

pub returns-then-is_own : goal.returns-then-is_own
returns-then-is_own c =
    let own : is_own c.args.router.now c.args.to ≡ true = cc in
    message_is_own c.args.router.now c.args.link c.args.to c.args.limit c.args.message.now c.as_slice.result.now c.read_for_this.result own c.as_slice.ensures.bytes c.read_for_this.ensures
