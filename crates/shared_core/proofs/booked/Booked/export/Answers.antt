-- What the router knows is what the name's own router knew once.
use Rattle.shared_core.proofs.Naming.{copy_known, known_now}
use Rattle.shared_core.proofs.booked.Booked.export.Goals as goal

pub returns : goal.returns
returns g c =
    let booked = c.args.self.now in
    copy_known g.L.CoreName.config booked.locked.state c.export.result c.export.ensures
    (known_now g.L.CoreName.config booked.locked booked.router booked.opening c.knew.ensures.state c.soundness.ensures)
