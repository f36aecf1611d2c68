use Rattle.std.proofs.Common.{◌≡◌, true, refl}
use Rattle.abstract_paths.specs.Ways.{takes}
use Rattle.datagrams.proofs.Read.{message_arrives}
use Rattle.datagrams.proofs.reading.arrival.Goals as goal

pub returns-then-takes : goal.returns-then-takes
returns-then-takes c =
    let is : takes c.args.way c.args.reading ≡ true = cc in
    message_arrives c.args.link c.args.way c.args.reading _ is (record { over = refl; by = refl; says = refl })
